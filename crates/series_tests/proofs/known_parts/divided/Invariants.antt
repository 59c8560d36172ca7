use Rattle.units.specs.SeriesParts.{series_of}
use Rattle.series_tests.proofs.FirstParts.{AreKnownFirst}
use Rattle.series_tests.proofs.known_parts.divided.Given as goal

abbrev pub invariant-loop : goal.invariant-loop
invariant-loop l = AreKnownFirst l.fn.ring (series_of l.fn.ring l.fn.a) (series_of l.fn.ring l.fn.b) l.counter l.own
