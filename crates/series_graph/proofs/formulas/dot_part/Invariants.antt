use Rattle.std.proofs.Common.{drop}
use Rattle.series_graph.specs.Nodes.{known_in}
use Rattle.series_graph.specs.Sums.{products_known}
use Rattle.series_graph.proofs.SumsSoFar.{IsSumSoFar}
use Rattle.series_graph.proofs.formulas.dot_part.Given as goal

abbrev pub invariant-loop-a : goal.invariant-loop-a
invariant-loop-a l = IsSumSoFar l.fn.ring l.fn.r (products_known l.fn.ring (known_in l.fn.nodes) l.fn.r l.fn.of)
    (products_known l.fn.ring (known_in l.fn.nodes) l.fn.r (drop l.a-index l.fn.of)) l.sum
