use Rattle.parts.specs.Series.{constant_of}
use Rattle.units.proofs.Constants.{divided_nothing, divided_one, divided_by}
use Rattle.units.proofs.quotients.over_constant.Goals as goal

pub returns-then-is_zero-clause-back : goal.returns-then-is_zero-clause-back
returns-then-is_zero-clause-back c = divided_nothing c.args.ring (constant_of c.args.ring c.args.first.now) c.args.part
    (c.is_zero.ensures.0 c.if-is_zero.true)

pub returns-then-inverse-eq1-clause-back : goal.returns-then-inverse-eq1-clause-back
returns-then-inverse-eq1-clause-back c = divided_one c.args.ring (constant_of c.args.ring c.args.first.now)
    c.constant_inverse-inverse.result c.args.part c.constant_inverse-inverse.ensures.inverts c.if-inverse-eq1.true

pub returns-clause-back : goal.returns-clause-back
returns-clause-back c = divided_by c.args.ring (constant_of c.args.ring c.args.first.now)
    c.constant_inverse-inverse.result c.args.part c.in_ok-scaled.field-0 c.constant_inverse-inverse.ensures.inverts
    c.in_ok-scaled.ensures.map
