use Rattle.std.proofs.Common.{arith}
use Rattle.parts.specs.Rings.{weights_of}
use Rattle.parts.proofs.Gained.{positive_take}
use Rattle.session.proofs.Greatest.{zero_permitted, past_not, greatest_found}
use Rattle.session.proofs.precision.greatest_permitted.Goals as goal

pub loop-least-init : goal.loop-least-init
loop-least-init c = record {
  permitted = zero_permitted (weights_of c.args.ring)
      (positive_take c.args.ring.n c.args.ring.weights c.args.ring.positive);
  past = past_not (weights_of c.args.ring);
  below = omega arith;
  low = omega arith;
}

pub returns : goal.returns
returns c = greatest_found (weights_of c.args.ring) c.loop-least.least c.loop-least.past
    (let end = c.loop-least-test.false in omega arith) c.loop-least.invariant.permitted c.loop-least.invariant.past
