use Rattle.std.proofs.Common.{◌∙◌}
use Rattle.std.proofs.lemmas.Result.{IfOk-weaker}
use Rattle.ps_model.proofs.PlainLeads.{of_terms}
use Rattle.ps_model.proofs.plain.factors.y_coefficient.Goals as goal

pub returns : goal.returns
returns c = IfOk-weaker c.sum_without_y.result _ _
    (λ p is. of_terms c.args.m c.args.k c.terms.result.now c.deref.result.now c.args.a.now p c.terms.ensures.listed
    (c.deref.ensures.value ∙ c.in_ok-terms.ensures) is) c.sum_without_y.ensures
