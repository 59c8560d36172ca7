use Rattle.units.proofs.quotients.inverse_next.Goals as goal

pub returns-clause-first : goal.returns-clause-first
returns-clause-first c = c.in_ok-next_of.ensures.next _ c.in_ok-numerator.ensures.one c.requires.own_first
