use Rattle.std.proofs.Common.{drop}
use Rattle.series_graph.specs.Nodes.{known_in}
use Rattle.series_graph.proofs.KnownSums.{multiples_known}
use Rattle.series_graph.proofs.SumsSoFar.{IsSumSoFar}
use Rattle.series_graph.proofs.formulas.combination_part.Given as goal

abbrev pub invariant-loop-c : goal.invariant-loop-c
invariant-loop-c l = IsSumSoFar l.fn.ring l.fn.r (multiples_known l.fn.ring (known_in l.fn.nodes) l.fn.r l.fn.of)
    (multiples_known l.fn.ring (known_in l.fn.nodes) l.fn.r (drop l.c-index l.fn.of)) l.sum
