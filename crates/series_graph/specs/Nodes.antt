-- The nodes of a graph as what contracts see of them.
--     formulas_in, constants_in, known_in nodes      of each node the formula, the constant term, the known parts
--     graph_of ring nodes      the graph that they are
use Rattle.std.specs.Prelude.{ℕ, List, map}
use Rattle.parts.specs.PartValue.{PartValue}
use Rattle.parts.specs.declared.rings.Ring.{Ring}
use Rattle.series_graph.specs.Formula.{Formula, formula_of}
use Rattle.series_graph.specs.GraphValue.{GraphValue}
use Rattle.series_graph.specs.declared.node.Node.{Node}

abbrev pub formulas_in : List Node → List Formula
formulas_in nodes = map (λ n. formula_of n.form) nodes

abbrev pub constants_in : List Node → List ℕ
constants_in nodes = map (λ n. n.constant) nodes

abbrev pub known_in : List Node → List (List PartValue)
known_in nodes = map (λ n. n.known) nodes

abbrev pub graph_of : Ring → List Node → GraphValue
graph_of ring nodes = record {
  ring = ring;
  formulas = formulas_in nodes;
  constants = constants_in nodes;
  known = known_in nodes;
}
