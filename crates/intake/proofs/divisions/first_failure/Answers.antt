-- The division at which the pass stopped, and none where it didn't, in each ring of the modulus.
use Rattle.intake.proofs.Failures.{first_failing_in, none_failing_in}
use Rattle.intake.proofs.divisions.first_failure.Goals as goal

pub returns-in-Err-clause-some : goal.returns-in-Err-clause-some
returns-in-Err-clause-some c = λ ws. first_failing_in c.args.modulus.value c.args.modulus.low c.args.expr.now
    c.requires.names c.requires.divisors ws _ _ c.in-Err.ensures.stopped

pub returns-in-Ok-clause-none : goal.returns-in-Ok-clause-none
returns-in-Ok-clause-none c = λ _ ws. none_failing_in c.args.modulus.value c.args.modulus.low c.args.expr.now
    c.requires.names c.requires.divisors ws _ c.in-Ok.ensures.passed
