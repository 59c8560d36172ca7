use Rattle.std.proofs.Common.{◌∙◌, sym, ◌++◌}
use Rattle.ps_model.specs.Keys.{key_compare}
use Rattle.ps_model.specs.FiniteMaps.{collected}
use Rattle.parts.specs.Rings.{modulus_of}
use Rattle.parts.proofs.Built.{part_terms, total_is}
use Rattle.parts.proofs.arithmetic.sum.Goals as goal

pub merged-requires-clause-a_terms : goal.merged-requires-clause-a_terms
merged-requires-clause-a_terms c =
    part_terms c.args.ring c.degree-degree.result c.args.a.now c.terms.result.now (sym c.degree-degree.ensures)
    c.terms.ensures.entries c.terms.ensures.order c.requires.parts.0

pub merged-requires-clause-b_terms : goal.merged-requires-clause-b_terms
merged-requires-clause-b_terms c =
    part_terms c.args.ring c.degree-degree.result c.args.b.now c.terms-2.result.now
    (sym (c.degree-degree.ensures ∙ c.requires.degrees)) c.terms-2.ensures.entries c.terms-2.ensures.order
    c.requires.parts.1

pub of_terms-requires : goal.of_terms-requires
of_terms-requires c = c.in_ok-terms.ensures.terms

pub returns-clause-map : goal.returns-clause-map
returns-clause-map c = c.of_terms.ensures.map ∙
    total_is c.args.ring c.degree-degree.result _ c.in_ok-terms.terms.items c.in_ok-terms.ensures
    ∙ (λ i. collected (key_compare 8) (modulus_of c.args.ring)
    (c.terms.ensures.entries i ++ c.terms-2.ensures.entries i))
