-- What the slots mean that are added to a graph: those of a product, a quotient and a power.
use Rattle.std.proofs.Common.{◌≡◌, ℕ, zero, suc, ◌+◌, ◌-◌, ◌<◌, ◌≤◌, ◌⊎◌, inl, inr, List, [], ◌∷◌, ◌++◌, length}
use Rattle.std.proofs.Common.{get_or, map}
use Rattle.std.proofs.Common.{Option, Some, None, refl, sym, ◌∙◌, ap, subst, arith}
use Rattle.std.specs.Prelude.{slice_get}
use Rattle.std.specs.List.{All}
use Rattle.std.proofs.lemmas.List.{get_or-map, length-map}
use Rattle.std.proofs.lemmas.Option.{slice_get_past, slice_get-get_or}
use Rattle.ps_model.specs.Bounds.{HasNoPowerAbove, HasNoDegreeAbove, IsUnit}
use Rattle.ps_model.specs.Notation.{zero as nought, constant_term, product, power, truncated, y_coefficient}
use Rattle.ps_model.specs.Prepared.{IsQuotient}
use Rattle.ps_model.specs.SeriesRing.{SeriesRing, ring, Poly}
use Rattle.ps_model.proofs.Factors.{truncated-again, truncated-product_right}
use Rattle.ps_model.proofs.PowerBounds.{power_bound-truncated, power_bound-quotient}
use Rattle.ps_model.proofs.Quotients.{one_quotient}
use Rattle.ps_model.proofs.RingLaws.{product-comm}
use Rattle.ps_model.proofs.YCoefficients.{y_coefficient-truncated}
use Rattle.series_graph.specs.Formula.{place_of, Formula, Number, Dot, Quotient}
use Rattle.series_graph.specs.GraphValue.{GraphValue, size_of, IsIdOf}
use Rattle.series_graph.specs.Meaning.{products, IsMeaning, AreMeanings}
use Rattle.series_graph.specs.declared.node.NodeId.{NodeId}
use Rattle.intake.specs.Slots.{meaning_of, slot_at, Mean, pairs_to, each_to, products_of, quotients_of}
use Rattle.intake.specs.Slots.{AddsEach, AddsSlots, AreIn}
use Rattle.intake.proofs.SlotMeanings.{get_or-before, get_or-at_end, meanings_before, products-of_pairs}
use Rattle.intake.proofs.SlotPolynomials.{y_coefficient-above, y_coefficient-own, y_coefficient-quotient}
use Rattle.intake.proofs.SlotSteps.{length_both}

-- places of lists
suc_plus : (a j : ℕ) → suc a + j ≡ suc (a + j)
suc_plus a j = omega arith

none_plus : (j : ℕ) → 0 + j ≡ j
none_plus j = omega arith

pub get_or-behind : {X : Type 0} (xs ys : List X) (j : ℕ) (d : X) → get_or (xs ++ ys) (length xs + j) d ≡ get_or ys j d
get_or-behind [] ys j d = ap (λ k. get_or ys k d) (none_plus j)
get_or-behind (x ∷ xs) ys j d = ap (λ k. get_or ((x ∷ xs) ++ ys) k d) (suc_plus (length xs) j)
    ∙ get_or-behind xs ys j d

within_or_last : (j n : ℕ) → j < suc n → (j < n) ⊎ (j ≡ n)
within_or_last zero zero lt = inr refl
within_or_last zero (suc n) lt = inl (omega arith)
within_or_last (suc j) zero lt = absurd (omega arith)
within_or_last (suc j) (suc n) lt = elim (within_or_last j n (omega arith)) [
  | inl h ↦ inl (omega arith)
  | inr h ↦ inr (ap suc h)
]

pub within_or_past : (j n : ℕ) → (j < n) ⊎ (n ≤ j)
within_or_past j zero = inr (omega arith)
within_or_past zero (suc n) = inl (omega arith)
within_or_past (suc j) (suc n) = elim (within_or_past j n) [ inl h ↦ inl (omega arith) | inr h ↦ inr (omega arith) ]

pub each_to-length : (n : ℕ) (g : ℕ → Formula) → length (each_to n g) ≡ n
each_to-length zero g = refl
each_to-length (suc n) g =
    let h = length_both (each_to n g) (g n ∷ []) in
    let k = each_to-length n g in
    omega (arith, h, k)

pub each_to-at : (n : ℕ) (g : ℕ → Formula) (j : ℕ) (d : Formula) → j < n → get_or (each_to n g) j d ≡ g j
each_to-at zero g j d lt = absurd (omega arith)
each_to-at (suc n) g j d lt = elim (within_or_last j n lt) [
  | inl before ↦ (let k = each_to-length n g in
      get_or-before (each_to n g) (g n ∷ []) j d (omega (arith, k, before)) ∙ each_to-at n g j d before)
  | inr last ↦ ap (λ k. get_or (each_to n g ++ g n ∷ []) k d) (last ∙ sym (each_to-length n g))
      ∙ get_or-at_end (each_to n g) (g n) d ∙ ap g (sym last)
]

pub slot_there : (ids : List NodeId) (j : ℕ) → j < length ids → (id : NodeId) × (slice_get ids j ≡ Some id)
slot_there [] j lt = absurd (omega arith)
slot_there (id ∷ ids) zero lt = (id, refl)
slot_there (id ∷ ids) (suc j) lt = slot_there ids j (omega arith)

-- new slots are slots of the new graph
pub slots_of_each : (n : ℕ) (formulas : List Formula) (old new : GraphValue) (ids : List NodeId) → length formulas ≡ n
    → AddsEach formulas old new ids → AddsSlots n n old new ids
slots_of_each n formulas old new ids long each = record {
  ring_is = each.ring_is;
  added = formulas;
  formulas_are = each.formulas_are;
  nodes = long;
  slots = each.count ∙ long;
  within = λ k d lt. (
      let place = each.places k (get_or ids k d) (slice_get-get_or ids k d lt) in
      let size = ap (λ (l : List Formula). length l) each.formulas_are ∙ length_both old.formulas formulas in
      omega (arith, place, size, each.count));
}

module _ (S : SeriesRing) (D : ℕ) where
  pub slot_past : (f : ℕ → Poly S) (ids : List NodeId) (j : ℕ) → length ids ≤ j → slot_at S f ids j ≡ nought
  slot_past f ids j le = ap (meaning_of S f) (slice_get_past ids j le)

  module _ (formulas : List Formula) (old new : GraphValue) (ids : List NodeId) (each : AddsEach formulas old new ids)
      (f : ℕ → Poly S) (are : AreMeanings S D new.formulas f) where
    pub meanings_then : AreMeanings S D old.formulas f
    meanings_then = meanings_before S D old.formulas formulas f
        (subst (λ (fs : List Formula). AreMeanings S D fs f) each.formulas_are are)

    -- what an added slot means
    added_at : (j : ℕ) (id : NodeId) → slice_get ids j ≡ Some id → j < length formulas
        → IsMeaning S D f (get_or formulas j (Number 0)) (slot_at S f ids j)
    added_at j id there lt = subst (λ (o : Option NodeId). IsMeaning S D f (get_or formulas j (Number 0))
        (meaning_of S f o))
        (sym there) (subst (λ (k : ℕ). IsMeaning S D f (get_or formulas j (Number 0)) (f k))
        (sym (each.places j id there)) meaning)
      where
        meaning : IsMeaning S D f (get_or formulas j (Number 0)) (f (size_of old + j))
        meaning = subst (λ (formula : Formula). IsMeaning S D f formula (f (size_of old + j)))
            (ap (λ (fs : List Formula). get_or fs (size_of old + j) (Number 0)) each.formulas_are
            ∙ get_or-behind old.formulas formulas j (Number 0)) (are (size_of old + j) (omega (
              arith,
              lt,
              ap (λ (l : List Formula). length l) each.formulas_are ∙ length_both old.formulas formulas,
            )))

    pub added_meaning : (j : ℕ) → j < length formulas → IsMeaning S D f (get_or formulas j (Number 0))
        (slot_at S f ids j)
    added_meaning j lt =
        let there = slot_there ids j (omega (arith, each.count, lt)) in
        added_at j there.0 there.1 lt

  pub products_mean : (a b : List NodeId) (old new : GraphValue) (ids : List NodeId) (u v : Poly S) (n K : ℕ)
      → AddsEach (products_of a b n) old new ids → n ≡ suc K → HasNoPowerAbove K (product u v)
      → Mean S D old.formulas a u → Mean S D old.formulas b v → Mean S D new.formulas ids (truncated D (product u v))
  products_mean a b old new ids u v n K each long bound of_a of_b f are j = elim (within_or_past j n) [
    | inl lt ↦ subst (λ (formula : Formula). IsMeaning S D f formula (slot_at S f ids j))
        (each_to-at n (λ j. Dot (pairs_to a b j (suc j))) j (Number 0) lt)
        (added_meaning (products_of a b n) old new ids each f are j
        (omega (arith, lt, each_to-length n (λ j. Dot (pairs_to a b j (suc j))))))
        ∙ ap (truncated D) (products-of_pairs S f a b u v j
        (of_a f (meanings_then (products_of a b n) old new ids each f are))
        (of_b f (meanings_then (products_of a b n) old new ids each f are)))
        ∙ sym (y_coefficient-truncated (ring S) D j (product u v))
    | inr past ↦ slot_past f ids j
        (omega (arith, past, each.count, each_to-length n (λ j. Dot (pairs_to a b j (suc j)))))
        ∙ sym (y_coefficient-above (ring S) K j (truncated D (product u v))
        (power_bound-truncated (ring S) D K (product u v) bound) (omega (arith, past, long)))
  ]

  -- one quotient at most
  pub same_quotient : (a b q r : Poly S) → HasNoPowerAbove 0 b → IsUnit S.modulus (constant_term b) → IsQuotient D a b q
      → IsQuotient D a b r → q ≡ r
  same_quotient a b q r flat unit is is' = only q is ∙ sym (only r is')
    where
      within : HasNoDegreeAbove D a
      within = ap (truncated D) (sym is.multiplies_back)
          ∙ truncated-again (ring S) (ring S).degree D _ ∙ is.multiplies_back

      only : (s : Poly S) → IsQuotient D a b s → s ≡ (one_quotient (ring S) b flat unit D a within).one_value
      only s h = (one_quotient (ring S) b flat unit D a within).only s h

  pub quotients_mean : (a : List NodeId) (b : NodeId) (old new : GraphValue) (ids : List NodeId) (u v w : Poly S)
      (K : ℕ)
      → AddsEach (quotients_of a b) old new ids → length a ≡ suc K → HasNoPowerAbove K u → HasNoPowerAbove 0 v
      → IsUnit S.modulus (constant_term v) → IsQuotient D u v w
      → Mean S D old.formulas a u → Mean S D old.formulas (b ∷ []) v → Mean S D new.formulas ids w
  quotients_mean a b old new ids u v w K each long bound flat unit is of_a of_b f are j =
      elim (within_or_past j (length a)) [
        | inl lt ↦ same_quotient (y_coefficient j u) v (slot_at S f ids j) (y_coefficient j w) flat unit
            (slot_is lt) (y_coefficient-quotient (ring S) D j u v w flat is)
        | inr past ↦ slot_past f ids j (omega (arith, past, each.count, length-map a (λ (id : NodeId). Quotient id b)))
            ∙ sym (y_coefficient-above (ring S) K j w (power_bound-quotient (ring S) D K u v w flat unit bound is)
            (omega (arith, past, long)))
      ]
    where
      before : AreMeanings S D old.formulas f
      before = meanings_then (quotients_of a b) old new ids each f are

      by : f (place_of b) ≡ v
      by = of_b f (meanings_then (quotients_of a b) old new ids each f are) 0 ∙ y_coefficient-own (ring S) v flat

      slot_is : j < length a → IsQuotient D (y_coefficient j u) v (slot_at S f ids j)
      slot_is lt = subst (λ (d : Poly S). IsQuotient D (y_coefficient j u) d (slot_at S f ids j))
          (of_b f (meanings_then (quotients_of a b) old new ids each f are) 0 ∙ y_coefficient-own (ring S) v flat)
          (subst (λ (t : Poly S). IsQuotient D t (f (place_of b)) (slot_at S f ids j))
          (sym (ap (meaning_of S f) (slice_get-get_or a j b lt))
          ∙ of_a f (meanings_then (quotients_of a b) old new ids each f are) j)
          (subst (λ (formula : Formula). IsMeaning S D f formula (slot_at S f ids j))
          (get_or-map (λ (id : NodeId). Quotient id b) a j b (Number 0) lt)
          (added_meaning (quotients_of a b) old new ids each f are j
          (omega (arith, lt, length-map a (λ (id : NodeId). Quotient id b))))))

  -- one more factor of a power
  pub power_more : (e : ℕ) (v : Poly S) → truncated D (product (truncated D (power v e)) v)
      ≡ truncated D (power v (suc e))
  power_more e v = ap (truncated D) (product-comm (ring S) _ v)
      ∙ sym (truncated-product_right (ring S) (ring S).degree (ring S).degree_adds D v (power v e))
