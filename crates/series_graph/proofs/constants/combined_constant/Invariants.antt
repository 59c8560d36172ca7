use Rattle.std.proofs.Common.{◌≡◌, ◌+◌, ◌%◌, ◌<◌, drop}
use Rattle.residue.specs.Residues.{number_of}
use Rattle.series_graph.specs.GraphValue.{combined}
use Rattle.series_graph.specs.Nodes.{constants_in}
use Rattle.series_graph.proofs.constants.combined_constant.Given as goal

abbrev pub invariant-loop-c : goal.invariant-loop-c
invariant-loop-c l = record {
  residue : l.sum < number_of l.fn.modulus;
  total : (l.sum + combined (constants_in l.fn.nodes) (drop l.c-index l.fn.of)) % number_of l.fn.modulus
      ≡ combined (constants_in l.fn.nodes) l.fn.of % number_of l.fn.modulus;
}
