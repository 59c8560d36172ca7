-- The division at which the pass stopped, and none where it didn't.
use Rattle.intake.proofs.Failures.{first_division_by_y, no_division_by_y}
use Rattle.intake.proofs.divisions.first_by_y.Goals as goal

pub returns-in-Err-clause-some : goal.returns-in-Err-clause-some
returns-in-Err-clause-some c = first_division_by_y c.args.expr.now _ c.in-Err.ensures.stopped

pub returns-in-Ok-clause-none : goal.returns-in-Ok-clause-none
returns-in-Ok-clause-none c = λ _. no_division_by_y c.args.expr.now _ c.in-Ok.ensures.passed
