use Rattle.std.proofs.Common.{◌≤◌}
use Rattle.ps_model.specs.AcceptedJob.{AreWeights}
use Rattle.parts_speed.proofs.read_ring.Given as goal

abbrev pub invariant-loop-word : goal.invariant-loop-word
invariant-loop-word l = record {
  few : l.n ≤ 8;
  weights : AreWeights l.n l.weights;
}
