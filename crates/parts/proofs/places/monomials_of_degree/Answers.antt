use Rattle.std.proofs.Common.{◌≡◌, suc, ◌+◌, ◌-◌, ap, subst, arith, drop, length, get_or, length-drop}
use Rattle.parts.specs.Counting.{AreCounts}
use Rattle.parts.specs.Places.{monomials_at}
use Rattle.parts.proofs.Counts.{counts_none, counts_small, counts_more}
use Rattle.parts.proofs.Filled.{nothing_left}
use Rattle.parts.proofs.places.monomials_of_degree.Goals as goal

pub loop-k-init : goal.loop-k-init
loop-k-init c = counts_none c.args.degree 4096 (drop (length c.args.weights.now - 0) c.args.weights.now)
    (nothing_left (drop (length c.args.weights.now - 0) c.args.weights.now)
    (omega (arith, length-drop (length c.args.weights.now - 0) c.args.weights.now))) (omega arith)

pub loop-k-preserved : goal.loop-k-preserved
loop-k-preserved c = counts_more c.args.degree c.args.weights.now (length c.args.weights.now - (c.loop-k.k + 1)) _
    c.loop-k.counts c.add_variable.new.counts (omega arith) (ap (λ j. get_or c.args.weights.now j 0) here)
    (c.requires.positive (length c.args.weights.now - 1 - c.loop-k.k) 0 (omega arith)) c.add_variable.ensures
    (subst (λ j. AreCounts (monomials_at (drop j c.args.weights.now)) c.args.degree c.loop-k.counts) next
    c.loop-k.invariant)
  where
    here : length c.args.weights.now - 1 - c.loop-k.k ≡ length c.args.weights.now - (c.loop-k.k + 1)
    here = omega arith

    next : length c.args.weights.now - c.loop-k.k ≡ suc (length c.args.weights.now - (c.loop-k.k + 1))
    next = omega arith

pub add_variable-requires-clause-small : goal.add_variable-requires-clause-small
add_variable-requires-clause-small c = λ d le. omega (
  arith,
  counts_small c.args.degree c.args.weights.now (length c.args.weights.now - c.loop-k.k) c.loop-k.counts
      c.requires.positive c.requires.low c.requires.few c.loop-k.invariant d le,
)

pub returns-clause-small : goal.returns-clause-small
returns-clause-small c =
    counts_small c.args.degree c.args.weights.now (length c.args.weights.now - c.loop-k.k) c.loop-k.counts
    c.requires.positive c.requires.low c.requires.few c.loop-k.invariant c.args.degree (omega arith)
