use Rattle.std.proofs.Common.{arith}
use Rattle.residue.specs.Residues.{number_of}
use Rattle.series_graph.proofs.ConstantSums.{multiplied-more}
use Rattle.series_graph.proofs.constants.dot_constant.Goals as goal

pub loop-a-preserved : goal.loop-a-preserved
loop-a-preserved c = record {
  residue = let low = c.args.modulus.low in let e = c.add-sum.ensures in omega arith;
  total = multiplied-more (number_of c.args.modulus) c.args.nodes.now c.loop-a.a-index c.loop-a.sum c.add-sum.result
      c.args.of.now (record { index = 0 }, record { index = 0 }) c.index-nodes-a.result c.index-nodes-b.result
      c.mul.result c.loop-a-test.true
      (c.requires.nodes c.loop-a.a-index (record { index = 0 }, record { index = 0 }) c.loop-a-test.true)
      c.mul.ensures c.add-sum.ensures c.loop-a.invariant.total;
}
