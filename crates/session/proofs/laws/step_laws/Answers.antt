use Rattle.session.proofs.EvenSteps.{fresh_even, raised_even, even_steps}
use Rattle.session.proofs.laws.step_laws.Goals as goal

pub returns : goal.returns
returns c = record { fresh = fresh_even; raised = raised_even; steps = even_steps }
