use Rattle.std.proofs.Common.{◌≡◌, ◌≤◌, arith, subst, sym, replicate, length}
use Rattle.std.proofs.Math.ListN.{set}
use Rattle.std.proofs.lemmas.List.Elements.{All-replicate, All-set}
use Rattle.parts.specs.Keys.{key_from}
use Rattle.parts.specs.Rings.{weights_of}
use Rattle.parts.specs.Terms.{IsKeyOf}
use Rattle.parts.proofs.Gained.{long_take}
use Rattle.parts.proofs.Singles.{variable_key_is}
use Rattle.parts.proofs.homogeneous.Part.variable.Goals as goal

pub single-requires-clause-key : goal.single-requires-clause-key
single-requires-clause-key c =
    subst (λ d. IsKeyOf (weights_of c.args.ring) d (key_from (set (replicate 8 0) c.args.i 1)))
    (sym c.weight.ensures.weight)
    (variable_key_is (weights_of c.args.ring) c.args.i (omega (arith, long)) (omega (arith, long)))
  where
    few : c.args.ring.n ≤ 8
    few = let h = c.args.ring.few in h

    long : length (weights_of c.args.ring) ≡ c.args.ring.n
    long = long_take c.args.ring.n c.args.ring.weights (let many = c.args.ring.many in omega arith)

pub single-requires-clause-low : goal.single-requires-clause-low
single-requires-clause-low c = All-set (λ p. p ≤ 4095) (replicate 8 0) c.args.i 1 (omega arith)
    (All-replicate (λ p. p ≤ 4095) 8 0 (omega arith))
