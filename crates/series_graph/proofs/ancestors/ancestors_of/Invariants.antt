use Rattle.series_graph.specs.Nodes.{formulas_in}
use Rattle.series_graph.proofs.Covers.{Covers}
use Rattle.series_graph.proofs.ancestors.ancestors_of.Given as goal

abbrev pub invariant-loop-k : goal.invariant-loop-k
invariant-loop-k l = Covers (formulas_in l.fn.nodes) l.fn.i l.k l.marks.items
