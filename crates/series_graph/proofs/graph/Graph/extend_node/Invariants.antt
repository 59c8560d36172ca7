use Rattle.series_graph.proofs.Extended.{IsRaised}
use Rattle.series_graph.proofs.graph.Graph.extend_node.Given as goal

abbrev pub invariant-loop : goal.invariant-loop
invariant-loop l = IsRaised l.fn.i l.counter l.fn.self l.self
