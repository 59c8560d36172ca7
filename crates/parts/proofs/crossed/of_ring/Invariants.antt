use Rattle.std.proofs.Common.{take, All}
use Rattle.parts.specs.SeriesParts.{SeriesValue, AreSeriesParts}
use Rattle.parts.proofs.crossed.of_ring.Given as goal

abbrev pub invariant-loop-s : goal.invariant-loop-s
invariant-loop-s l = All (λ (s : SeriesValue). AreSeriesParts l.fn.ring s.parts) (take l.s-index l.series)
