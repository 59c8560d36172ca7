use Rattle.series_graph.specs.Formula.{place_of}
use Rattle.series_graph.proofs.Extended.{IsExtended}
use Rattle.series_graph.proofs.graph.Graph.extend.Given as goal

abbrev pub invariant-loop-i : goal.invariant-loop-i
invariant-loop-i l = IsExtended (place_of l.fn.id) l.fn.to l.i l.marks.items l.fn.self l.self
