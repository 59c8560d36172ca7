-- The first pair, one more root without a pair, and no further root.
use Rattle.intake.proofs.NearPairs.{first_of_all, no_pair_before, none_left}
use Rattle.intake.proofs.roots.near_pair.Goals as goal

pub returns-in-Some : goal.returns-in-Some
returns-in-Some c = first_of_all c.args.modulus.value c.args.roots.now c.loop-first.first c.in-Some.pair
    c.in-Some.ensures c.loop-first.invariant

pub loop-first-preserved : goal.loop-first-preserved
loop-first-preserved c = no_pair_before c.args.modulus.value c.args.roots.now c.loop-first.first
    c.in_default.ensures c.loop-first.invariant

pub returns : goal.returns
returns c = λ i j d near. none_left c.args.modulus.value c.args.roots.now i j d c.loop-first.first
    c.loop-first-test.false (c.loop-first.invariant i j d near) near
