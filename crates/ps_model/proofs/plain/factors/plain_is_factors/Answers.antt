use Rattle.std.proofs.Common.{map, ap, sym, subst, ◌∙◌}
use Rattle.ps_model.specs.Notation.{truncated, product}
use Rattle.ps_model.specs.Factors.{EachIsFactor, product_of}
use Rattle.ps_model.specs.Job.{job_ring}
use Rattle.ps_model.specs.Lead.{lead_in}
use Rattle.ps_model.specs.Tree.{formal_degree}
use Rattle.ps_model.specs.PlainPolynomial.{plain_polynomial, HasValuesBelow}
use Rattle.ps_model.proofs.PlainPolynomials.{cut_polynomial, values_below, values_retained}
use Rattle.ps_model.proofs.PlainLeads.{IsPlainLead, IsPlainWhole, plain_lead, plain_whole, factors_fit, lead_fits}
use Rattle.ps_model.proofs.PlainChecks.{list_accepted, rewritten}
use Rattle.ps_model.proofs.plain.factors.plain_is_factors.Goals as goal

pub product_up_to-requires-clause-in_range : goal.product_up_to-requires-clause-in_range
product_up_to-requires-clause-in_range c = factors_fit c.args.input.now c.args.fs.now c.requires.in_range

pub plain_product-requires-clause-in_range : goal.plain_product-requires-clause-in_range
plain_product-requires-clause-in_range c = lead_fits c.args.job.now.modulus c.args.job.now.weights
    (formal_degree c.args.job.now.expr) c.args.input.now c.in_ok-cut.cut c.in_ok-lead.lead c.in_ok-product.product
    c.args.fs.now c.requires.in_range
    (plain_lead c.args.job.now.modulus c.args.job.now.weights c.args.d (formal_degree c.args.job.now.expr)
    c.wide_degree.result c.requires.modulus c.args.input.now c.in_ok-cut.cut c.in_ok-lead.lead c.args.fs.now
    c.requires.in_range c.in_ok-cut.ensures c.wide_degree.ensures c.in_ok-lead.ensures) c.in_ok-product.ensures.within

pub returns : goal.returns
returns c =
    let m = c.args.job.now.modulus in
    let ws = c.args.job.now.weights in
    let k = formal_degree c.args.job.now.expr in
    let lead : IsPlainLead m ws k c.args.input.now c.in_ok-cut.cut c.in_ok-lead.lead =
    plain_lead m ws c.args.d k c.wide_degree.result c.requires.modulus c.args.input.now c.in_ok-cut.cut
    c.in_ok-lead.lead c.args.fs.now c.requires.in_range c.in_ok-cut.ensures c.wide_degree.ensures
    c.in_ok-lead.ensures in
    let whole : IsPlainWhole m ws c.args.d k c.in_ok-cut.cut c.in_ok-whole.whole c.args.fs.now =
    plain_whole m ws c.args.d k c.requires.modulus c.args.input.now c.in_ok-cut.cut c.in_ok-lead.lead
    c.in_ok-product.product c.in_ok-multiple.multiple c.in_ok-whole.whole c.args.fs.now lead
    c.in_ok-product.ensures.product c.in_ok-multiple.ensures c.in_ok-whole.ensures in
    let value = truncated c.args.d (plain_polynomial m ws c.args.input.now) in
    let cut = ap (plain_polynomial m ws) c.in_ok-cut.ensures ∙ cut_polynomial m ws c.args.d c.args.input.now in
    list_accepted c.args.job.now c.args.d value (map (plain_polynomial m ws) c.args.fs.now)
    c.in_ok-are_factors.field-0 c.same.result c.if-not-branch.false
    (λ t. subst (λ rs. EachIsFactor c.args.d rs (map (plain_polynomial m ws) c.args.fs.now))
    c.as_slice.ensures (c.in_ok-are_factors.ensures.0 t))
    (rewritten c.same.result (plain_polynomial m ws c.in_ok-whole.whole) (plain_polynomial m ws c.in_ok-cut.cut) _ _
    (whole.is ∙ ap (λ v. truncated c.args.d (product (lead_in (job_ring c.args.job.now) c.args.job.now.expr v)
    (product_of (map (plain_polynomial m ws) c.args.fs.now)))) cut)
    cut
    (c.same.ensures.polynomials m ws c.requires.modulus whole.residues
    (subst (HasValuesBelow m) (sym c.in_ok-cut.ensures) (values_retained m c.requires.modulus _ c.args.input.now
    (values_below m c.requires.modulus c.args.input.now c.requires.input_residues)))))
