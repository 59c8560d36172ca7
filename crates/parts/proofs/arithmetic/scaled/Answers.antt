use Rattle.std.proofs.Common.{◌∙◌, ap, sym}
use Rattle.ps_model.specs.Keys.{key_compare}
use Rattle.ps_model.specs.FiniteMaps.{collected}
use Rattle.ps_model.specs.Sums.{multiples}
use Rattle.parts.specs.Rings.{modulus_of}
use Rattle.parts.proofs.Built.{part_terms, total_is}
use Rattle.parts.proofs.arithmetic.scaled.Goals as goal

pub scaled_terms-requires : goal.scaled_terms-requires
scaled_terms-requires c =
    record {
      a_terms = part_terms c.args.ring c.degree-degree.result c.args.a.now c.terms.result.now
          (sym c.degree-degree.ensures) c.terms.ensures.entries c.terms.ensures.order c.requires;
    }

pub of_terms-requires : goal.of_terms-requires
of_terms-requires c = c.in_ok-terms.ensures.terms

pub returns-clause-map : goal.returns-clause-map
returns-clause-map c = c.of_terms.ensures.map ∙
    total_is c.args.ring c.degree-degree.result _ c.in_ok-terms.terms.items c.in_ok-terms.ensures
    ∙ ap (λ es. collected (key_compare 8) (modulus_of c.args.ring) (multiples c.args.c es)) c.terms.ensures.entries
