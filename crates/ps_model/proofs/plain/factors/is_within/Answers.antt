-- proofs/plain/factors/is_within/Answers.antt
use Rattle.std.proofs.Common.{ap, refl, sym, ◌∙◌, subst}
use Rattle.ps_model.specs.PlainPolynomial.{plain_polynomial, HasValuesBelow}
use Rattle.ps_model.proofs.PlainPolynomials.{cut_polynomial, values_retained}
use Rattle.ps_model.proofs.PlainChecks.{rewritten}
use Rattle.ps_model.proofs.plain.factors.is_within.Goals as goal

pub returns : goal.returns
returns c = λ m two h. rewritten c.same.result (plain_polynomial m c.args.weights.now c.in_ok-low.low)
    (plain_polynomial m c.args.weights.now c.args.f.now) _ _
    (ap (plain_polynomial m c.args.weights.now) c.in_ok-low.ensures
    ∙ cut_polynomial m c.args.weights.now c.args.d c.args.f.now) refl
    (c.same.ensures.polynomials m c.args.weights.now two
    (subst (HasValuesBelow m) (sym c.in_ok-low.ensures) (values_retained m two _ c.args.f.now h)) h)
