use Rattle.commands.proofs.Openings.{opened_even, opened_is}
use Rattle.commands.proofs.factoring.Factoring.open.Goals as goal

pub invariant_of-result : goal.invariant_of-result
invariant_of-result c = opened_even c.args.job _ c.requires.accepted c.in_ok-open.ensures

pub returns-clause-opened : goal.returns-clause-opened
returns-clause-opened c = opened_is c.args.job _ c.requires.accepted c.in_ok-open.ensures
