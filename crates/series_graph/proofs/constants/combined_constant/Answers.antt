use Rattle.std.proofs.Common.{arith}
use Rattle.residue.specs.Residues.{number_of}
use Rattle.series_graph.proofs.ConstantSums.{combined-more}
use Rattle.series_graph.proofs.constants.combined_constant.Goals as goal

pub loop-c-preserved : goal.loop-c-preserved
loop-c-preserved c = record {
  residue = let low = c.args.modulus.low in let e = c.add-sum.ensures in omega arith;
  total = combined-more (number_of c.args.modulus) c.args.nodes.now c.loop-c.c-index c.loop-c.sum c.add-sum.result
      c.args.of.now (0, record { index = 0 }) c.index-nodes-id.result c.mul-multiple.result c.loop-c-test.true
      (c.requires.nodes c.loop-c.c-index (0, record { index = 0 }) c.loop-c-test.true) c.mul-multiple.ensures
      c.add-sum.ensures c.loop-c.invariant.total;
}
