use Rattle.std.proofs.Common.{◌≡◌, ◌-◌, refl, subst, arith, length, length-drop, drop, get_or}
use Rattle.parts.specs.declared.rings.Ring.{Ring}
use Rattle.parts.specs.Counting.{AddsVariable}
use Rattle.parts.specs.Rings.{weights_of}
use Rattle.parts.proofs.Counted.{counts_start, counts_small, counts_next}
use Rattle.parts.proofs.Gained.{long_take}
use Rattle.parts.proofs.counting.monomials.Goals as goal

long : (ring : Ring) → length (weights_of ring) ≡ ring.n
long ring = long_take ring.n ring.weights (let few = ring.few in let many = ring.many in omega arith)

pub loop-k-init : goal.loop-k-init
loop-k-init c = record {
  places = refl;
  counts = counts_start (weights_of c.args.ring) c.n-n.result c.args.d 4096
      (let variables = c.n-n.ensures.variables in omega (arith, long c.args.ring)) (omega (arith, c.requires));
}

pub add_variable-requires-clause-small : goal.add_variable-requires-clause-small
add_variable-requires-clause-small c = counts_small (drop c.loop-k.k (weights_of c.args.ring)) c.args.d c.loop-k.counts
    c.requires (let behind = length-drop c.loop-k.k (weights_of c.args.ring) in let few = c.args.ring.few in
    omega (arith, long c.args.ring)) c.loop-k.invariant.counts

pub loop-k-preserved : goal.loop-k-preserved
loop-k-preserved c = record {
  places = c.add_variable.array_long;
  counts = counts_next c.args.ring.n c.args.ring.weights c.loop-k.k (c.loop-k.k - 1) c.args.d c.loop-k.counts
      c.add_variable.new.counts (let few = c.args.ring.few in let many = c.args.ring.many in omega arith)
      (let some = c.loop-k-test.true in omega arith)
      (let variables = c.n-n.ensures.variables in let below = c.loop-k.auto.k in omega arith) c.args.ring.positive
      (subst (λ ws. AddsVariable (get_or ws (c.loop-k.k - 1) 0) c.args.d c.loop-k.counts c.add_variable.new.counts)
      c.weights-weights.ensures c.add_variable.ensures) c.loop-k.invariant.counts;
}
