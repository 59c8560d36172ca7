use Rattle.std.proofs.Common.{◌≤◌, length, arith}
use Rattle.stages.proofs.LineTitles.{each_there}
use Rattle.stages.proofs.raising.least_length.Goals as goal

pub returns-clause-have : goal.returns-clause-have
returns-clause-have g c = each_there (λ _ s. c.loop-stage.least ≤ length s.items) _ _
    (λ k d lt. c.loop-stage.invariant.least k d (let past = c.loop-stage-test.false in omega arith))
