-- Known parts against what nodes mean, and the next part of a quotient.
use Rattle.std.proofs.Common.{◌≡◌, ℕ, ◌<◌, ◌≤◌, [], ◌∷◌, ◌++◌, length, refl, sym, ◌∙◌, ap}
use Rattle.std.proofs.Common.{subst, arith}
use Rattle.std.proofs.lemmas.List.{length_push}
use Rattle.std.proofs.Math.Seq.{get_or-append_seam}
use Rattle.ps_model.specs.Bounds.{ExactlyOne, IsUnit}
use Rattle.ps_model.specs.Notation.{homogeneous_part, truncated, constant_term}
use Rattle.ps_model.specs.Polynomial.{Polynomial, product}
use Rattle.ps_model.specs.Prepared.{IsQuotient}
use Rattle.ps_model.specs.Ring.{Ring as AnyRing}
use Rattle.ps_model.specs.SeriesRing.{ring as ring_of, degree, Poly}
use Rattle.ps_model.specs.Truncation as by_degree
use Rattle.ps_model.proofs.Factors.{truncated-again, truncated-product_right, constant_flat}
use Rattle.ps_model.proofs.Quotients.{one_quotient, quotient-truncated}
use Rattle.ps_model.proofs.Truncations.{same_truncation, homogeneous_part-truncated}
use Rattle.parts.specs.PartValue.{PartValue}
use Rattle.parts.specs.RowsOfParts.{part_in, nothing}
use Rattle.parts.specs.Series.{series, polynomial_in, constant_of}
use Rattle.parts.proofs.Polynomials.{modulus_is}
use Rattle.units.specs.SeriesParts.{IsPartAt, AreSeriesParts, series_of, AreQuotientParts}
use Rattle.units.proofs.Parts.{series_part, series_within, parts-more}
use Rattle.series_graph.specs.Formula.{place_of, Formula, Quotient}
use Rattle.series_graph.specs.GraphValue.{GraphValue, IsGraph, IsLawful, IsKnownPart, size_of, known_at, constant_at}
use Rattle.series_graph.specs.Meaning.{formula_at, IsMeaning, AreMeanings}
use Rattle.series_graph.specs.Sums.{part_known}
use Rattle.series_graph.specs.declared.node.NodeId.{NodeId}
use Rattle.series_graph.proofs.Existence.{meanings_exist}
use Rattle.series_graph.proofs.Meanings.{sound_graph, meanings_are}
use Rattle.series_graph.proofs.NextParts.{HasParts, known_by}

module _ (R : AnyRing) (D : ℕ) where
  abbrev upto : Polynomial R → Polynomial R
  upto p = by_degree.truncated R R.degree D p

  dividend_within : (a b q : Polynomial R) → IsQuotient D a b q → upto a ≡ a
  dividend_within a b q is = ap upto (sym is.multiplies_back) ∙ truncated-again R R.degree D _ ∙ is.multiplies_back

  -- a quotient up to D, of what is alike up to D
  quotient_alike : (a a' b b' q q' : Polynomial R) → upto a ≡ upto a' → upto b ≡ upto b' → upto q ≡ upto q'
      → upto q' ≡ q' → IsQuotient D a b q → IsQuotient D (upto a') b' q'
  quotient_alike a a' b b' q q' same_a same_b same_q within is = record {
    within = within;
    multiplies_back = truncated-product_right R R.degree R.degree_adds D q' b'
        ∙ (λ i. upto (product R ((sym within ∙ sym same_q ∙ is.within) i) (sym same_b i)))
        ∙ sym (truncated-product_right R R.degree R.degree_adds D q b) ∙ is.multiplies_back
        ∙ sym (dividend_within a b q is) ∙ same_a;
  }

  -- one quotient at most
  one_at_most : (a b q q' : Polynomial R) → by_degree.truncated R R.y_degree 0 b ≡ b
      → IsUnit R.modulus (constant_term b) → IsQuotient D a b q → IsQuotient D a b q' → q ≡ q'
  one_at_most a b q q' flat unit is is' = one.only q is ∙ sym (one.only q' is')
    where
      one : ExactlyOne (IsQuotient D a b)
      one = one_quotient R b flat unit D a (dividend_within a b q is)

module _ (graph : GraphValue) (is : IsGraph graph) where
  pub known_parts : (j : ℕ) → j < size_of graph → AreSeriesParts graph.ring (known_at graph j)
  known_parts j inside = λ r lt. (is.known_are j r inside lt).part

  module _ (D : ℕ) (f : ℕ → Poly (series graph.ring)) (are : AreMeanings (series graph.ring) D graph.formulas f) where
    pub known_part : (j s : ℕ) → j < size_of graph → s < length (known_at graph j) → s ≤ D
        → part_known graph.ring graph.known j s ≡ homogeneous_part s (f j)
    known_part j s inside lt le = (is.known_are j s inside lt).meaning D (f j) le (f, are, refl)

    pub has_parts : (r j : ℕ) → r ≤ D → j < size_of graph → r < length (known_at graph j)
        → HasParts graph.ring graph.known f r j
    has_parts r j le inside lt = λ s below. known_part j s inside (omega arith) (omega arith)

    -- where the parts up to E are known
    pub known_upto : (j E : ℕ) → j < size_of graph → E < length (known_at graph j) → E ≤ D
        → truncated E (series_of graph.ring (known_at graph j)) ≡ truncated E (f j)
    known_upto j E inside lt le = same_truncation (ring_of (series graph.ring)) (degree (series graph.ring)) E _ _
        (λ s below. series_part graph.ring (known_at graph j) (known_parts j inside) s
        ∙ known_part j s inside (omega arith) (omega arith))

  -- the constant term, from the part of degree 0
  pub known_constant : (j : ℕ) → j < size_of graph → 0 < length (known_at graph j)
      → constant_of graph.ring (part_in (known_at graph j) 0) ≡ constant_at graph j
  known_constant j inside some =
      let all = meanings_exist graph.ring graph.constants graph.formulas (sound_graph graph is) 0 in
      ap (λ p. constant_term p) (known_part 0 all.0 all.1 j 0 inside some (omega arith))
      ∙ constant_flat (ring_of (series graph.ring)) (all.0 j)
      ∙ (meanings_are graph.ring graph.constants graph.formulas (sound_graph graph is) 0 all.0 all.1 j inside).constant

  module _ (i : ℕ) (a b : NodeId) (inside : i < size_of graph) (at : formula_at graph.formulas i ≡ Quotient a b) where
    quotient_lawful : IsLawful graph.ring graph.constants i (Quotient a b)
    quotient_lawful = subst (λ (φ : Formula). IsLawful graph.ring graph.constants i φ) at (is.lawful i inside)

    quotient_means : (D : ℕ) (f : ℕ → Poly (series graph.ring)) → AreMeanings (series graph.ring) D graph.formulas f
        → IsQuotient D (f (place_of a)) (f (place_of b)) (f i)
    quotient_means D f are = subst (λ (φ : Formula). IsMeaning (series graph.ring) D f φ (f i)) at (are i inside)

    -- what is known of a quotient
    pub quotient_first : length (known_at graph i) ≤ length (known_at graph (place_of a))
        → length (known_at graph i) ≤ length (known_at graph (place_of b))
        → AreQuotientParts graph.ring (series_of graph.ring (known_at graph (place_of a)))
        (series_of graph.ring (known_at graph (place_of b))) (known_at graph i)
    quotient_first of_a of_b D count =
        let all = meanings_exist graph.ring graph.constants graph.formulas (sound_graph graph is) D in
        let lawful = quotient_lawful in
        quotient_alike (ring_of (series graph.ring)) D _ _ _ _ _ _
        (sym (known_upto D all.0 all.1 (place_of a) D (omega arith) (omega arith) (omega arith)))
        (sym (known_upto D all.0 all.1 (place_of b) D (omega arith) (omega arith) (omega arith)))
        (sym (known_upto D all.0 all.1 i D inside (omega arith) (omega arith)))
        (series_within graph.ring (known_at graph i) (known_parts i inside) D (omega arith))
        (quotient_means D all.0 all.1)

    -- one part more: the series up to it is what the quotient means, and the part is that of its degree
    module _ (p : PartValue) (of_a : length (known_at graph i) < length (known_at graph (place_of a)))
        (of_b : length (known_at graph i) < length (known_at graph (place_of b)))
        (part : IsPartAt graph.ring (length (known_at graph i)) p)
        (parts : AreQuotientParts graph.ring (series_of graph.ring (known_at graph (place_of a)))
        (series_of graph.ring (known_at graph (place_of b))) (known_at graph i ++ p ∷ [])) where
      longer : AreSeriesParts graph.ring (known_at graph i ++ p ∷ [])
      longer = parts-more graph.ring (known_at graph i) p (known_parts i inside) part

      same_series : (D : ℕ) (f : ℕ → Poly (series graph.ring)) → length (known_at graph i) ≤ D
          → AreMeanings (series graph.ring) D graph.formulas f
          → truncated (length (known_at graph i)) (f i) ≡ series_of graph.ring (known_at graph i ++ p ∷ [])
      same_series D f le are =
          let lawful = quotient_lawful in
          let divisor = meanings_are graph.ring graph.constants graph.formulas (sound_graph graph is) D f are
          (place_of b) (omega arith) in
          one_at_most (ring_of (series graph.ring)) (length (known_at graph i)) _ (f (place_of b)) _ _ divisor.flat
          (subst (λ n. IsUnit (series graph.ring).modulus n) (sym divisor.constant)
          (subst (λ m. IsUnit m (constant_at graph (place_of b))) (sym (modulus_is graph.ring)) lawful.2))
          (quotient-truncated (ring_of (series graph.ring)) (length (known_at graph i)) D (f (place_of a))
          (f (place_of b)) (f i) le (quotient_means D f are))
          (quotient_alike (ring_of (series graph.ring)) (length (known_at graph i)) _ (f (place_of a)) _
          (f (place_of b)) _ _
          (truncated-again (ring_of (series graph.ring)) (degree (series graph.ring)) (length (known_at graph i)) _
          ∙ known_upto D f are (place_of a) (length (known_at graph i)) (omega arith) of_a le)
          (known_upto D f are (place_of b) (length (known_at graph i)) (omega arith) of_b le) refl
          (series_within graph.ring (known_at graph i ++ p ∷ []) longer (length (known_at graph i))
          (omega (arith, length_push (known_at graph i) p)))
          (parts (length (known_at graph i)) (omega (arith, length_push (known_at graph i) p))))

      pub known_quotient : IsKnownPart graph.ring graph.formulas i (length (known_at graph i)) p
      known_quotient = known_by graph.ring graph.formulas i (length (known_at graph i)) p inside part
          (λ D f le are _. ap (λ (t : PartValue). polynomial_in graph.ring t.map)
          (sym (get_or-append_seam (known_at graph i) p [] nothing))
          ∙ sym (series_part graph.ring (known_at graph i ++ p ∷ []) longer (length (known_at graph i)))
          ∙ ap (homogeneous_part (length (known_at graph i))) (sym (same_series D f le are))
          ∙ homogeneous_part-truncated (ring_of (series graph.ring)) (degree (series graph.ring))
          (length (known_at graph i)) (length (known_at graph i)) (f i) (omega arith))
