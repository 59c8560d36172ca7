use Rattle.intake.proofs.RingWeights.{Copied}
use Rattle.intake.proofs.free_input.weights_of.Given as goal

abbrev pub invariant-loop-i : goal.invariant-loop-i
invariant-loop-i l = Copied l.fn.ring.weights l.weights l.i
