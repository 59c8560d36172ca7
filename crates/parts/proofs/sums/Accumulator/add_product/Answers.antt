use Rattle.std.proofs.Common.{◌≡◌, ◌+◌, ◌∙◌, ◌++◌, ap, sym, subst, map, false}
use Rattle.std.specs.FinMap.{from_entries}
use Rattle.ps_model.specs.Keys.{add_keys, key_compare}
use Rattle.ps_model.specs.Sums.{multiples, products}
use Rattle.parts.specs.Rings.{modulus_of}
use Rattle.parts.specs.Terms.{entry_of, sign}
use Rattle.parts.specs.PartValue.{IsPartOf}
use Rattle.parts.specs.AccumulatorValue.{with_product, held_map}
use Rattle.parts.specs.TermLists.{IsTotal}
use Rattle.parts.proofs.Built.{part_terms, terms_listed}
use Rattle.parts.proofs.Products.{sparse_product}
use Rattle.parts.proofs.sums.Accumulator.add_product.Goals as goal

pub with_products-requires-clause-a_terms : goal.with_products-requires-clause-a_terms
with_products-requires-clause-a_terms c =
    part_terms c.ring-ring.result c.degree-left.result c.args.a.now c.terms.result.now (sym c.degree-left.ensures)
    c.terms.ensures.entries c.terms.ensures.order
    (subst (λ r. IsPartOf r c.args.a.now) (sym (c.ring-ring.ensures ∙ ap (λ s. s.ring) c.self.view_is))
    c.requires.parts.0)

pub with_products-requires-clause-b_terms : goal.with_products-requires-clause-b_terms
with_products-requires-clause-b_terms c =
    part_terms c.ring-ring.result c.degree-right.result c.args.b.now c.terms-2.result.now
    (sym c.degree-right.ensures) c.terms-2.ensures.entries c.terms-2.ensures.order
    (subst (λ r. IsPartOf r c.args.b.now) (sym (c.ring-ring.ensures ∙ ap (λ s. s.ring) c.self.view_is))
    c.requires.parts.1)

pub returns-clause-ok : goal.returns-clause-ok
returns-clause-ok c = λ i. record { ring = (c.self.view_is i).ring; degree = (c.self.view_is i).degree; map = whole i }
  where
    at_ring : c.ring-ring.result ≡ c.args.self.now.ring
    at_ring = c.ring-ring.ensures ∙ ap (λ s. s.ring) c.self.view_is

    sparse : c.self.inside.is_dense ≡ false
    sparse = c.if-self.false

    held : from_entries {R = key_compare 8} (map entry_of c.self.inside.terms.items) ≡ c.args.self.now.map
    held = ap (λ b. held_map b c.self.inside.dense.map c.self.inside.terms.items) (sym sparse) ∙
        ap (λ s. s.map) c.self.view_is

    sum_is : IsTotal c.ring-ring.result (c.degree-left.result + c.degree-right.result)
        (map entry_of c.self.inside.terms.items ++ multiples (sign (modulus_of c.ring-ring.result) c.args.minus)
        (products (add_keys 8) (map entry_of c.terms.result.now) (map entry_of c.terms-2.result.now)))
        c.in_ok-sum.sum.items
    sum_is = subst (λ l. IsTotal c.ring-ring.result (c.degree-left.result + c.degree-right.result)
        (map entry_of l ++ multiples (sign (modulus_of c.ring-ring.result) c.args.minus)
        (products (add_keys 8) (map entry_of c.terms.result.now) (map entry_of c.terms-2.result.now)))
        c.in_ok-sum.sum.items) c.deref.ensures.value c.in_ok-sum.ensures

    whole : held_map c.self.inside.is_dense c.self.inside.dense.map c.in_ok-sum.sum.items ≡
        with_product (modulus_of c.args.self.now.ring) c.args.minus c.args.self.now.map c.args.a.now.map
        c.args.b.now.map
    whole = ap (λ b. held_map b c.self.inside.dense.map c.in_ok-sum.sum.items) sparse
        ∙ sparse_product c.ring-ring.result (c.degree-left.result + c.degree-right.result)
        c.self.inside.terms.items c.in_ok-sum.sum.items
        (terms_listed c.self.inside.dense.ring c.self.inside.dense.degree c.self.inside.terms.items
        c.self.invariant.2) c.args.minus c.terms.result.now c.terms-2.result.now c.args.a.now.map
        c.args.b.now.map c.terms.ensures.entries c.terms-2.ensures.entries sum_is
        ∙ (λ i. with_product (modulus_of (at_ring i)) c.args.minus (held i) c.args.a.now.map c.args.b.now.map)
