use Rattle.std.proofs.Common.{◌≡◌, ◌+◌, ◌%◌, ◌<◌, drop}
use Rattle.residue.specs.Residues.{number_of}
use Rattle.series_graph.specs.GraphValue.{multiplied}
use Rattle.series_graph.specs.Nodes.{constants_in}
use Rattle.series_graph.proofs.constants.dot_constant.Given as goal

abbrev pub invariant-loop-a : goal.invariant-loop-a
invariant-loop-a l = record {
  residue : l.sum < number_of l.fn.modulus;
  total : (l.sum + multiplied (constants_in l.fn.nodes) (drop l.a-index l.fn.of)) % number_of l.fn.modulus
      ≡ multiplied (constants_in l.fn.nodes) l.fn.of % number_of l.fn.modulus;
}
