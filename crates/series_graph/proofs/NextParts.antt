-- The next part of a node, by its formula, from the known parts of those that it names.
use Rattle.std.proofs.Common.{◌≡◌, ℕ, ◌-◌, ◌<◌, ◌≤◌, List, [], ◌∷◌, length, get_or, refl, sym, ◌∙◌, ap}
use Rattle.std.proofs.Common.{subst, arith}
use Rattle.std.specs.List.{All}
use Rattle.std.proofs.lemmas.List.Elements.{All-head, All-tail}
use Rattle.ps_model.specs.Keys.{y_key}
use Rattle.ps_model.specs.Notation.{homogeneous_part, monomial, product, truncated}
use Rattle.ps_model.specs.Polynomial.{Polynomial, sum, scaled}
use Rattle.ps_model.specs.Ring.{Ring as AnyRing}
use Rattle.ps_model.specs.SeriesRing.{ring as ring_of, degree, Poly}
use Rattle.ps_model.specs.Truncation.{homogeneous_part as part_by}
use Rattle.ps_model.specs.Value.{variable}
use Rattle.ps_model.proofs.KeptTerms.{kept_terms-scaled}
use Rattle.ps_model.proofs.SliceValues.{part-nothing}
use Rattle.ps_model.proofs.Truncations.{homogeneous_part-sum, homogeneous_part-product, homogeneous_part-truncated}
use Rattle.ps_model.proofs.Truncations.{sum_to-same}
use Rattle.parts.specs.PartValue.{PartValue}
use Rattle.parts.specs.RowsOfParts.{part_in}
use Rattle.parts.specs.Series.{series, polynomial_in}
use Rattle.parts.specs.declared.rings.Ring.{Ring}
use Rattle.units.specs.SeriesParts.{IsPartAt}
use Rattle.series_graph.specs.Formula.{place_of, Formula, Number, Variable, Combination, Dot}
use Rattle.series_graph.specs.GraphValue.{IsKnownPart}
use Rattle.series_graph.specs.Meaning.{formula_at, combination, products, IsMeaning, AreMeanings}
use Rattle.series_graph.specs.Sums.{part_known, product_known, products_known, IsPartWith}
use Rattle.series_graph.specs.declared.node.NodeId.{NodeId}

module _ (R : AnyRing) where
  part-scaled : (r c : ℕ) (p : Polynomial R)
      → part_by R R.degree r (scaled R c p) ≡ scaled R c (part_by R R.degree r p)
  unfolding part_by
  part-scaled r c p = kept_terms-scaled R _ c p

-- a part that is that of what the formula means, in each family of meanings, is known
pub known_by : (ring : Ring) (formulas : List Formula) (i r : ℕ) (p : PartValue) → i < length formulas
    → IsPartAt ring r p
    → ((D : ℕ) (f : ℕ → Poly (series ring)) → r ≤ D → AreMeanings (series ring) D formulas f
    → IsMeaning (series ring) D f (formula_at formulas i) (f i)
    → polynomial_in ring p.map ≡ homogeneous_part r (f i)) → IsKnownPart ring formulas i r p
known_by ring formulas i r p inside part value = record {
  part = part;
  meaning = λ D q le (f, are, is). value D f le are (are i inside) ∙ ap (homogeneous_part r) (sym is);
}

module _ (ring : Ring) (formulas : List Formula) (i r : ℕ) (p : PartValue) (inside : i < length formulas) where
  cut_part : (D : ℕ) (x y : Poly (series ring)) → r ≤ D → x ≡ truncated D y
      → homogeneous_part r x ≡ homogeneous_part r y
  cut_part D x y le is = ap (homogeneous_part r) is
      ∙ homogeneous_part-truncated (ring_of (series ring)) (degree (series ring)) r D y le

  pub known_number : (c : ℕ) → formula_at formulas i ≡ Number c
      → IsPartWith ring r (homogeneous_part r (monomial c (y_key (series ring).variables 0))) p
      → IsKnownPart ring formulas i r p
  known_number c is (part, value) = known_by ring formulas i r p inside part (λ D f le are means.
      value ∙ sym (cut_part D (f i) _ le
      (subst (λ (φ : Formula). IsMeaning (series ring) D f φ (f i)) is means)))

  pub known_variable : (v : ℕ) → formula_at formulas i ≡ Variable v
      → IsPartWith ring r (homogeneous_part r (variable (series ring) v)) p → IsKnownPart ring formulas i r p
  known_variable v is (part, value) = known_by ring formulas i r p inside part (λ D f le are means.
      value ∙ sym (cut_part D (f i) _ le
      (subst (λ (φ : Formula). IsMeaning (series ring) D f φ (f i)) is means)))

-- of sums: the parts of what f gives are the known parts
module _ (ring : Ring) (known : List (List PartValue)) (f : ℕ → Poly (series ring)) (r : ℕ) where
  abbrev pub HasParts : ℕ → Type 0
  HasParts j = (s : ℕ) → s ≤ r → part_known ring known j s ≡ homogeneous_part s (f j)

  combination-part : (of : List (ℕ × NodeId)) → All (λ t. HasParts (place_of t.1)) of
      → homogeneous_part r (combination (series ring) f of)
      ≡ combination (series ring) (λ j. part_known ring known j r) of
  combination-part [] each = part-nothing (ring_of (series ring)) (degree (series ring)) r
  combination-part (t ∷ ts) each =
      let first = All-head (λ t. HasParts (place_of t.1)) t ts each in
      homogeneous_part-sum (ring_of (series ring)) (degree (series ring)) r _ _
      ∙ (λ i. sum (ring_of (series ring)) ((part-scaled (ring_of (series ring)) r t.0 (f (place_of t.1))
      ∙ ap (scaled (ring_of (series ring)) t.0) (sym (first r (omega arith)))) i)
      (combination-part ts (All-tail (λ t. HasParts (place_of t.1)) t ts each) i))

  product-part : (a b : ℕ) → HasParts a → HasParts b
      → homogeneous_part r (product (f a) (f b)) ≡ product_known ring known r a b
  product-part a b of_a of_b = homogeneous_part-product (ring_of (series ring)) (degree (series ring))
      (ring_of (series ring)).degree_adds r (f a) (f b)
      ∙ sum_to-same (ring_of (series ring)) r _ _ (λ s le i. product (sym (of_a s le) i)
      (sym (of_b (r - s) (omega arith)) i))

  products-part : (of : List (NodeId × NodeId)) → All (λ t. HasParts (place_of t.0) × HasParts (place_of t.1)) of
      → homogeneous_part r (products (series ring) f of) ≡ products_known ring known r of
  products-part [] each = part-nothing (ring_of (series ring)) (degree (series ring)) r
  products-part (t ∷ ts) each =
      let first = All-head (λ t. HasParts (place_of t.0) × HasParts (place_of t.1)) t ts each in
      homogeneous_part-sum (ring_of (series ring)) (degree (series ring)) r _ _
      ∙ (λ i. sum (ring_of (series ring)) (product-part (place_of t.0) (place_of t.1) first.0 first.1 i)
      (products-part ts (All-tail (λ t. HasParts (place_of t.0) × HasParts (place_of t.1)) t ts each) i))

-- the parts of the node j up to the degree r are known
abbrev pub KnowsUpTo : (ring : Ring) → List Formula → List (List PartValue) → ℕ → ℕ → Type 0
KnowsUpTo ring formulas known r j =
    (s : ℕ) → s ≤ r → IsKnownPart ring formulas j s (part_in (get_or known j []) s)

-- the next part of a combination, and of a sum of products
module _ (ring : Ring) (formulas : List Formula) (known : List (List PartValue)) (i r : ℕ) (p : PartValue)
    (inside : i < length formulas) where
  parts_are : (D : ℕ) (f : ℕ → Poly (series ring)) → r ≤ D → AreMeanings (series ring) D formulas f → (j : ℕ)
      → KnowsUpTo ring formulas known r j → HasParts ring known f r j
  parts_are D f le are j known_j = λ s below. (known_j s below).meaning D (f j) (omega arith) (f, are, refl)

  pub known_combination : (of : List (ℕ × NodeId)) → formula_at formulas i ≡ Combination of
      → All (λ t. KnowsUpTo ring formulas known r (place_of t.1)) of
      → IsPartWith ring r (combination (series ring) (λ j. part_known ring known j r) of) p
      → IsKnownPart ring formulas i r p
  known_combination of is each (part, value) = known_by ring formulas i r p inside part (λ D f le are means.
      value ∙ sym (ap (homogeneous_part r) (subst (λ (φ : Formula). IsMeaning (series ring) D f φ (f i)) is means)
      ∙ combination-part ring known f r of (λ k d lt. parts_are D f le are _ (each k d lt))))

  pub known_dot : (of : List (NodeId × NodeId)) → formula_at formulas i ≡ Dot of
      → All (λ t. KnowsUpTo ring formulas known r (place_of t.0) × KnowsUpTo ring formulas known r (place_of t.1)) of
      → IsPartWith ring r (products_known ring known r of) p → IsKnownPart ring formulas i r p
  known_dot of is each (part, value) = known_by ring formulas i r p inside part (λ D f le are means.
      value ∙ sym (cut_part ring formulas i r p inside D (f i) (products (series ring) f of) le
      (subst (λ (φ : Formula). IsMeaning (series ring) D f φ (f i)) is means)
      ∙ products-part ring known f r of (λ k d lt. let both = each k d lt in
      (parts_are D f le are _ both.0, parts_are D f le are _ both.1))))
