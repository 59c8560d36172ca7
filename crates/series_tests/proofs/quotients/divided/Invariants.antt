use Rattle.parts.specs.RowsOfParts.{parts_of}
use Rattle.units.specs.SeriesParts.{series_of}
use Rattle.series_tests.proofs.FirstParts.{AreFirst}
use Rattle.series_tests.proofs.quotients.divided.Given as goal

abbrev pub invariant-loop : goal.invariant-loop
invariant-loop l = AreFirst l.fn.ring (series_of l.fn.ring (parts_of l.fn.a))
    (series_of l.fn.ring (parts_of l.fn.b)) l.counter l.own.items
