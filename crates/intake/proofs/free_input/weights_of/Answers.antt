use Rattle.std.proofs.Common.{◌≤◌, arith}
use Rattle.intake.proofs.RingWeights.{copied_all}
use Rattle.intake.proofs.free_input.weights_of.Goals as goal

pub returns : goal.returns
returns c = copied_all c.args.ring.weights c.loop-i.weights c.args.ring.n c.loop-i.i c.args.ring.many c.args.ring.past
    all
    c.loop-i.invariant
  where
    all : c.args.ring.n ≤ c.loop-i.i
    all = omega arith
