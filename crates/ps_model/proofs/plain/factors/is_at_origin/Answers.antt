-- proofs/plain/factors/is_at_origin/Answers.antt
use Rattle.std.proofs.Common.{ap, sym, ◌∙◌, subst}
use Rattle.ps_model.specs.PlainPolynomial.{plain_polynomial, HasValuesBelow}
use Rattle.ps_model.proofs.PlainPolynomials.{cut_polynomial, values_retained}
use Rattle.ps_model.proofs.PlainChecks.{rewritten}
use Rattle.ps_model.proofs.plain.factors.is_at_origin.Goals as goal

pub returns : goal.returns
returns c = rewritten c.same.result (plain_polynomial c.args.m c.args.weights.now c.in_ok-low.low)
    (plain_polynomial c.args.m c.args.weights.now c.in_ok-expected.expected) _ _
    (ap (plain_polynomial c.args.m c.args.weights.now) c.in_ok-low.ensures
    ∙ cut_polynomial c.args.m c.args.weights.now 0 c.args.f.now)
    (c.in_ok-expected.ensures.power c.args.weights.now)
    (c.same.ensures.polynomials c.args.m c.args.weights.now c.requires.modulus
    (subst (HasValuesBelow c.args.m) (sym c.in_ok-low.ensures)
    (values_retained c.args.m c.requires.modulus _ c.args.f.now c.requires.residues))
    c.in_ok-expected.ensures.residues)
