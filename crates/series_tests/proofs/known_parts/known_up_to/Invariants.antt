use Rattle.std.proofs.Common.{◌≡◌, length}
use Rattle.units.specs.SeriesParts.{AreSeriesParts}
use Rattle.series_tests.proofs.known_parts.known_up_to.Given as goal

abbrev pub invariant-loop-r : goal.invariant-loop-r
invariant-loop-r l = record { count : length l.known ≡ l.r; parts : AreSeriesParts l.fn.ring l.known }
