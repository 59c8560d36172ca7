use Rattle.std.proofs.Common.{◌≡◌, false}
use Rattle.ps_model.specs.Tree.{has_y}
use Rattle.intake.proofs.TreePasses.{SumGoing, ProductGoing, SumHasY, ProductHasY}
use Rattle.intake.proofs.divisions.+passes.Given as goal

abbrev pub decreases-pass : goal.decreases-pass
decreases-pass l = goal.size-pass l

abbrev pub decreases-pass_factor : goal.decreases-pass_factor
decreases-pass_factor l = goal.size-pass_factor l

abbrev pub invariant-pass-loop-summand : goal.invariant-pass-loop-summand
invariant-pass-loop-summand l = record {
  going : SumGoing (λ d. has_y d ≡ false) l.expr l.fn.seen l.summand-items l.summand-index l.passed.seen;
  y : SumHasY l.expr l.summand-items l.summand-index l.passed.has_y;
}

abbrev pub invariant-pass-loop-factor : goal.invariant-pass-loop-factor
invariant-pass-loop-factor l = record {
  going : ProductGoing (λ d. has_y d ≡ false) l.expr l.fn.seen l.factor-items l.factor-index l.passed.seen;
  y : ProductHasY l.expr l.factor-items l.factor-index l.passed.has_y;
}
