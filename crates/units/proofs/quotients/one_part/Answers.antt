use Rattle.std.proofs.Common.{◌∙◌, ap}
use Rattle.ps_model.specs.Notation.{homogeneous_part, one}
use Rattle.units.proofs.Constants.{one_first, one_later, zero_part}
use Rattle.units.proofs.quotients.one_part.Goals as goal

pub returns-then-r-eq0-clause-one : goal.returns-then-r-eq0-clause-one
returns-then-r-eq0-clause-one c = ap (λ n. homogeneous_part n one) c.if-r-eq0.true
    ∙ one_first c.args.ring c.in_ok-constant.field-0 c.in_ok-constant.ensures.map

pub returns-clause-part : goal.returns-clause-part
returns-clause-part c = zero_part c.args.ring c.args.r c.zero.result c.zero.ensures.degree c.zero.ensures.map

pub returns-clause-one : goal.returns-clause-one
returns-clause-one c = one_later c.args.ring c.args.r c.zero.result c.if-r-eq0.false c.zero.ensures.map
