use Rattle.std.proofs.Common.{arith}
use Rattle.parts_speed.proofs.WeightsRead.{weights_more}
use Rattle.parts_speed.proofs.read_ring.Goals as goal

pub loop-word-preserved : goal.loop-word-preserved
loop-word-preserved c = record {
  few = omega arith;
  weights = weights_more c.loop-word.n _ c.loop-word.weights (omega (arith, c.loop-word.invariant.weights.eight))
      (omega arith) (omega arith) c.loop-word.invariant.weights;
}
