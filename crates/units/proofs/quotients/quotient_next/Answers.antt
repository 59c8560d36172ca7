use Rattle.std.proofs.Common.{◌≡◌, length, sym, ◌∙◌, ap}
use Rattle.parts.specs.PartValue.{PartValue}
use Rattle.parts.specs.RowsOfParts.{parts_of, part_in}
use Rattle.parts.specs.Series.{polynomial_in}
use Rattle.units.specs.SeriesParts.{IsPartAt}
use Rattle.units.proofs.Parts.{series_part}
use Rattle.units.proofs.PartsRead.{read_is}
use Rattle.units.proofs.quotients.quotient_next.Goals as goal
use Rattle.units.proofs.quotients.quotient_next.Goals.{After-deref}

top : (c : After-deref) → (c.deref.result.now ≡ part_in (parts_of c.args.a.now) (length c.args.own.now))
    × IsPartAt c.args.ring (length c.args.own.now) c.deref.result.now
top c = read_is c.args.ring c.args.a.now (length c.args.own.now) c.index-a-own.result c.deref.result.now
    c.requires.a_parts c.requires.a_enough c.index-a-own.is c.deref.ensures

pub next_of-requires-clause-numerator : goal.next_of-requires-clause-numerator
next_of-requires-clause-numerator c = (top (goal.at.next_of-requires-clause-numerator c).After-deref).1

pub returns-clause-first : goal.returns-clause-first
returns-clause-first c = c.in_ok-next_of.ensures.next _
    (series_part c.args.ring (parts_of c.args.a.now) c.requires.a_parts (length c.args.own.now)
    ∙ ap (λ (p : PartValue). polynomial_in c.args.ring p.map) (sym (top
    (goal.at.returns-clause-first c).After-deref).0))
    c.requires.own_first
