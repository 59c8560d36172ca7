-- A pair that is too near, a pair that is apart, and no further root.
use Rattle.std.proofs.Common.{◌<◌, subst, arith}
use Rattle.ps_model.specs.Bounds.{IsUnit}
use Rattle.intake.proofs.NearPairs.{unit_of_inverse, no_unit, later_pair, near_here, none_later}
use Rattle.intake.proofs.roots.near_root.Goals as goal

pub returns-in-Err : goal.returns-in-Err
returns-in-Err c = record {
  at = omega arith;
  near = near_here c.args.modulus.value c.args.roots.now c.args.place c.loop-second.second _ c.sub-difference.result
      c.sub-difference.ensures c.loop-second.invariant.above c.loop-second-test.true
      (no_unit c.args.modulus.value c.sub-difference.result c.in-Err.field-0.gcd c.in-Err.ensures.common
      c.in-Err.ensures.divisor);
  divisor = c.in-Err.ensures.divisor;
  least = λ j d near. let lt : c.loop-second.second < j = c.loop-second.invariant.before j d near in omega arith;
}

pub loop-second-preserved : goal.loop-second-preserved
loop-second-preserved c = record {
  above = omega arith;
  before = later_pair c.args.modulus.value c.args.roots.now c.args.place c.loop-second.second _
      (subst (IsUnit c.args.modulus.value) c.sub-difference.ensures (unit_of_inverse c.args.modulus
      c.sub-difference.result c.in_default.field-0 c.in_default.ensures.inverse)) c.loop-second.invariant.before;
}

pub returns : goal.returns
returns c = λ j d near. none_later c.args.modulus.value c.args.roots.now _ j d c.loop-second.second
    c.loop-second-test.false (c.loop-second.invariant.before j d near) near
