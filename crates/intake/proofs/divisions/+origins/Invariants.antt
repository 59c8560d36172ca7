use Rattle.std.proofs.Common.{◌<◌}
use Rattle.intake.specs.Origin.{IsByUnit}
use Rattle.intake.proofs.OriginPasses.{SumOrigin, ProductOrigin}
use Rattle.intake.proofs.TreePasses.{SumGoing, ProductGoing}
use Rattle.intake.proofs.divisions.+origins.Given as goal

abbrev pub decreases-at_origin : goal.decreases-at_origin
decreases-at_origin l = goal.size-at_origin l

abbrev pub decreases-share_at_origin : goal.decreases-share_at_origin
decreases-share_at_origin l = goal.size-share_at_origin l

abbrev pub invariant-at_origin-loop-summand : goal.invariant-at_origin-loop-summand
invariant-at_origin-loop-summand l = record {
  going : SumGoing (IsByUnit l.modulus.value) l.expr l.fn.seen l.summand-items l.summand-index l.sum.seen;
  residue : l.sum.value < l.modulus.value;
  value : SumOrigin l.modulus.value l.expr l.summand-items l.summand-index l.sum.value;
}

abbrev pub invariant-at_origin-loop-factor : goal.invariant-at_origin-loop-factor
invariant-at_origin-loop-factor l = record {
  going : ProductGoing (IsByUnit l.modulus.value) l.expr l.fn.seen l.factor-items l.factor-index l.product.seen;
  residue : l.product.value < l.modulus.value;
  value : ProductOrigin l.modulus.value l.expr l.factor-items l.factor-index l.product.value;
}
