use Rattle.std.proofs.Common.{◌∙◌, ap, sym, subst}
use Rattle.parts.specs.PartValue.{IsPartOf}
use Rattle.parts.specs.TermLists.{AreTermsOf}
use Rattle.parts.proofs.sums.Accumulator.finish.Goals as goal

pub of_terms-requires : goal.of_terms-requires
of_terms-requires c = subst (λ d. AreTermsOf c.ring.result d c.self.inside.terms.items) (sym c.degree.ensures)
    (subst (λ r. AreTermsOf r c.self.inside.dense.degree c.self.inside.terms.items) (sym c.ring.ensures)
    c.self.invariant.2)

pub returns-clause-part : goal.returns-clause-part
returns-clause-part c = subst (λ r. IsPartOf r c.of_terms.result)
    (c.ring.ensures ∙ ap (λ s. s.ring) c.self.view_is) c.of_terms.ensures.part
