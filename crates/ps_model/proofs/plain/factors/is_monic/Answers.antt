-- proofs/plain/factors/is_monic/Answers.antt
use Rattle.std.proofs.Common.{ap, sym, ◌∙◌, subst}
use Rattle.ps_model.specs.PlainPolynomial.{plain_polynomial, HasValuesBelow}
use Rattle.ps_model.proofs.PlainPolynomials.{y_part_polynomial, y_power_polynomial, values_retained, values_collected}
use Rattle.ps_model.proofs.PlainChecks.{rewritten}
use Rattle.ps_model.proofs.plain.factors.is_monic.Goals as goal

pub returns : goal.returns
returns c = λ ws. rewritten c.same.result (plain_polynomial c.args.m ws c.in_ok-high.high)
    (plain_polynomial c.args.m ws c.in_ok-lead.lead) _ _
    (ap (plain_polynomial c.args.m ws) c.in_ok-high.ensures ∙ y_part_polynomial c.args.m ws c.args.k c.args.f.now)
    (ap (plain_polynomial c.args.m ws) c.in_ok-lead.ensures
    ∙ y_power_polynomial c.args.m ws c.requires.modulus c.args.k)
    (c.same.ensures.polynomials c.args.m ws c.requires.modulus
    (subst (HasValuesBelow c.args.m) (sym c.in_ok-high.ensures)
    (values_retained c.args.m c.requires.modulus _ c.args.f.now c.requires.residues))
    (subst (HasValuesBelow c.args.m) (sym c.in_ok-lead.ensures) (values_collected c.args.m c.requires.modulus _)))
