-- Rows that have the coefficients of parts: their product, and one part more or less.
use Rattle.std.proofs.Common.{◌≡◌, ℕ, zero, suc, ◌+◌, ◌-◌, ◌*◌, ◌<◌, ◌≤◌}
use Rattle.std.proofs.Common.{T, List, [], ◌∷◌, ◌++◌, length, get_or, take, map}
use Rattle.std.proofs.Common.{All, refl, sym, ◌∙◌, ap, subst, length-take, arith}
use Rattle.std.specs.Cmp.{tied_itself}
use Rattle.std.specs.FinMap.{entries, is_sorted}
use Rattle.std.specs.Option.{unwrap_or}
use Rattle.std.proofs.Common.{inl, inr}
use Rattle.std.proofs.Math.Seq.{get_or-append_seam}
use Rattle.std.proofs.lemmas.Bool.{cases_lt}
use Rattle.std.proofs.lemmas.List.{get_or_default, get_or_append_left, length_push}
use Rattle.std.proofs.lemmas.List.Elements.{All-append}
use Rattle.ps_model.specs.Keys.{Key, key_compare, numbers}
use Rattle.ps_model.specs.KeyLaws.{key_compare_total, key_compare-IsAntisymmetric}
use Rattle.ps_model.specs.Sums.{total}
use Rattle.ps_model.proofs.Coefficients.{found_total}
use Rattle.ps_model.proofs.Totals.{total-append}
use Rattle.residue.specs.ProductSums.{ProductSumValue, Gains}
use Rattle.residue.specs.Products.{sum_below}
use Rattle.residue.proofs.Products.{sum_below-same, sum_below-zero}
use Rattle.parts.specs.CrossedEntries.{entries_at}
use Rattle.parts.specs.Keys.{key_from, MonomialValue}
use Rattle.parts.specs.PartValue.{PartValue, IsPartOf}
use Rattle.parts.specs.Rings.{modulus_of, variables_of, weights_of}
use Rattle.parts.specs.RowsOfParts.{nothing, part_in}
use Rattle.parts.specs.SeriesParts.{AreSeriesParts}
use Rattle.parts.specs.SeriesRows.{entry, pair_key, indicator, all_entries, crossed_entry, crossed_total, AreRows}
use Rattle.parts.specs.SeriesRows.{SameEntries, IsSeries, IsContiguous, IsHeld, IsPairKey, IsPairTerm, HasPlaceOf}
use Rattle.parts.specs.Terms.{IsKeyOf, key_of, entry_of}
use Rattle.parts.specs.declared.rings.Ring.{Ring}
use Rattle.parts.specs.declared.terms.Term.{Term}
use Rattle.parts.proofs.Found.{key_at_place, found_at}
use Rattle.parts.proofs.Gained.{all_unmapped}
use Rattle.parts.proofs.Indicators.{IsPair, total-none}
use Rattle.parts.proofs.PairSums.{crossed_pairs}
use Rattle.parts.proofs.RowTerms.{held_place}
use Rattle.parts.proofs.SeriesSums.{total-all, indicator-degree}

-- a key without powers past the second variable
pair_of : (n : ℕ) (k : Key 8) → n ≤ 2 → k ≡ key_from (take n (numbers 8 k.powers)) → IsPair k
pair_of zero k le is = is ∙ (λ i. pair_key (sym first i) (sym second i))
  where
    first : k.powers.0 ≡ 0
    first = ap (λ (z : Key 8). z.powers.0) is

    second : k.powers.1.0 ≡ 0
    second = ap (λ (z : Key 8). z.powers.1.0) is
pair_of (suc zero) k le is = is ∙ (λ i. pair_key k.powers.0 (sym second i))
  where
    second : k.powers.1.0 ≡ 0
    second = ap (λ (z : Key 8). z.powers.1.0) is
pair_of (suc (suc zero)) k le is = is
pair_of (suc (suc (suc n))) k le is = absurd (omega arith)

module _ (ring : Ring) (two : variables_of ring ≤ 2) where
  pub key_pair : (d : ℕ) (k : Key 8) → IsKeyOf (weights_of ring) d k → IsPair k
  key_pair d k is = pair_of (length (weights_of ring)) k (omega (arith, length-take ring.n ring.weights)) is.is

  part_pairs : (p : PartValue) → IsPartOf ring p → All (λ e. IsPair e.0) (entries p.map)
  part_pairs p is i d lt = key_pair p.degree _ (is i d lt).0

  all_pairs : (ps : List PartValue) → All (IsPartOf ring) ps → All (λ e. IsPair e.0) (all_entries ps)
  all_pairs [] h = λ i d lt. absurd (omega arith)
  all_pairs (p ∷ ps) h = All-append (λ (e : Key 8 × ℕ). IsPair e.0) (entries p.map) (all_entries ps)
      (part_pairs p (h 0 p (omega arith))) (all_pairs ps (λ i d lt. h (suc i) d (omega arith)))

  are_parts : (ps : List PartValue) → AreSeriesParts ring ps → All (IsPartOf ring) ps
  are_parts ps are i d lt = subst (IsPartOf ring) (get_or_default ps i nothing d lt) (are i lt).1

  -- the product of rows is that of the series
  pub crossed_rows : (m p f : ℕ) (A W : List (List ℕ)) (a w : List PartValue) → AreRows m A a → AreRows m W w →
      AreSeriesParts ring a → AreSeriesParts ring w →
      crossed_entry A W f p ≡ crossed_total (indicator (pair_key p f)) a w
  crossed_rows m p f A W a w rows others a_are w_are =
      sum_below-same (suc f) _ _ (λ i _. sum_below-same (suc p) _ _ (λ j _.
      (λ l. rows.coefficients i j l * others.coefficients (f - i) (p - j) l))) ∙
      crossed_pairs p f (all_entries w) (all_pairs w (are_parts w w_are)) (all_entries a)
      (all_pairs a (are_parts a a_are))

  -- parts of lower degrees have nothing at a key
  pub lower_none : (ps : List PartValue) → AreSeriesParts ring ps → (d : ℕ) (z : Key 8) → length ps ≤ d →
      IsKeyOf (weights_of ring) d z → total (indicator z) (all_entries ps) ≡ 0
  lower_none ps are d z le is = total-all (indicator z) ps ∙ sum_below-zero (length ps) _ (λ s lt.
      total-none (indicator z) (entries_at ps s) (λ i e k. indicator-degree (weights_of ring) d z is s _
      (subst (λ n. IsKeyOf (weights_of ring) n (get_or (entries_at ps s) i e).0) (are s lt).0
      ((are s lt).1 i e k).0) (λ same. omega arith)))

pub total-push : (g : Key 8 → ℕ) (ps : List PartValue) (p : PartValue) →
    total g (all_entries (ps ++ p ∷ [])) ≡ total g (all_entries ps) + total g (entries p.map)
total-push g [] p = total-append g (entries p.map) [] ∙ omega arith
total-push g (q ∷ ps) p = total-append g (entries q.map) (all_entries (ps ++ p ∷ [])) ∙
    omega (arith, total-push g ps p, total-append g (entries q.map) (all_entries ps))

-- what a list of terms in order has at a key of its own
pub own_coefficient : (ts : List Term) (i : ℕ) (d : Term) → T (is_sorted (key_compare 8) (map entry_of ts)) →
    i < length ts → total (indicator (key_at_place ts i d)) (map entry_of ts) ≡ (get_or ts i d).coefficient
own_coefficient ts i d sorted lt =
    sym (found_total (key_compare 8) (key_compare_total 8) (key_compare-IsAntisymmetric 8) (key_at_place ts i d)
    (map entry_of ts) sorted) ∙
    ap (λ o. unwrap_or o 0) (found_at (key_at_place ts i d) ts i d sorted lt
    (tied_itself (key_compare_total 8) (key_at_place ts i d)))

-- a part more
pub rows_more : (m : ℕ) (rows old new : List (List ℕ)) (ps : List PartValue) (p : PartValue) (ts : List Term) →
    AreRows m rows ps → SameEntries rows old → map entry_of ts ≡ entries p.map →
    ((f q : ℕ) → entry new f q ≡ entry old f q + total (indicator (pair_key q f)) (map entry_of ts)) →
    ((f q : ℕ) → entry new f q < m) → AreRows m new (ps ++ p ∷ [])
rows_more m rows old new ps p ts h same listed coefficients low = record {
  residues = low;
  coefficients = λ f q. coefficients f q ∙ (λ i. (same f q ∙ h.coefficients f q) i +
      total (indicator (pair_key q f)) (listed i)) ∙ sym (total-push (indicator (pair_key q f)) ps p);
}

-- a part less
pub rows_less : (m : ℕ) (rows new : List (List ℕ)) (ps : List PartValue) (p : PartValue) (ts : List Term) →
    AreRows m rows (ps ++ p ∷ []) → map entry_of ts ≡ entries p.map →
    ((f q : ℕ) → entry rows f q ≡ entry new f q + total (indicator (pair_key q f)) (map entry_of ts)) →
    AreRows m new ps
rows_less m rows new ps p ts h listed coefficients = record {
  residues = λ f q. let a = h.residues f q in let b = coefficients f q in omega arith;
  coefficients = λ f q. let a = coefficients f q in let b = h.coefficients f q in
      let c = total-push (indicator (pair_key q f)) ps p in
      let e : total (indicator (pair_key q f)) (map entry_of ts) ≡ total (indicator (pair_key q f)) (entries p.map) =
      ap (total (indicator (pair_key q f))) listed in omega arith;
}

-- same numbers
pub rows_same : (m : ℕ) (rows new : List (List ℕ)) (ps : List PartValue) → AreRows m rows ps → SameEntries rows new →
    AreRows m new ps
rows_same m rows new ps h same = record {
  residues = λ f q. subst (λ n. n < m) (sym (same f q)) (h.residues f q);
  coefficients = λ f q. same f q ∙ h.coefficients f q;
}

-- no row, no part
pub rows_none : (m : ℕ) → 0 < m → AreRows m [] []
rows_none m some = record { residues = λ f q. some; coefficients = λ f q. refl }

-- series with a part more, or less
module _ (ring : Ring) (ps : List PartValue) (rows : List (List ℕ)) (h : IsSeries ring ps rows) where
  parts_more : (p : PartValue) → p.degree ≡ length ps → IsPartOf ring p → AreSeriesParts ring (ps ++ p ∷ [])
  parts_more p degree is s lt = elim (cases_lt s (length ps)) [
    | inl low ↦ subst (λ (q : PartValue). (q.degree ≡ s) × IsPartOf ring q)
        (sym (get_or_append_left ps (p ∷ []) nothing s low)) (h.parts_are s low)
    | inr high ↦
        let end : length ps ≡ s = omega (arith, length_push ps p) in
        subst (λ n. ((part_in (ps ++ p ∷ []) n).degree ≡ n) × IsPartOf ring (part_in (ps ++ p ∷ []) n)) end
        (subst (λ (q : PartValue). (q.degree ≡ length ps) × IsPartOf ring q)
        (sym (get_or-append_seam ps p [] nothing)) (degree, is))
  ]

  -- a part more, where there are no rows
  pub series_part : (p : PartValue) (more : List PartValue) → (IsContiguous ring → ⊥) → length ps ≤ 4095 →
      p.degree ≡ length ps → IsPartOf ring p → more ≡ ps ++ p ∷ [] → IsSeries ring more rows
  series_part p more none few degree is e = subst (λ (qs : List PartValue). IsSeries ring qs rows) (sym e) (record {
    parts_are = parts_more p degree is;
    few = omega (arith, length_push ps p);
    rows_are = λ two. absurd (none two);
  })

  -- and where there are
  pub series_more : (p : PartValue) (more : List PartValue) (old new : List (List ℕ)) (ts : List Term) →
      IsContiguous ring → length ps ≤ 4095 → p.degree ≡ length ps → IsPartOf ring p → more ≡ ps ++ p ∷ [] →
      SameEntries rows old → map entry_of ts ≡ entries p.map →
      ((f q : ℕ) → entry new f q ≡ entry old f q + total (indicator (pair_key q f)) (map entry_of ts)) →
      ((f q : ℕ) → entry new f q < modulus_of ring) → IsSeries ring more new
  series_more p more old new ts two few degree is e same listed coefficients low =
      subst (λ (qs : List PartValue). IsSeries ring qs new) (sym e) (record {
        parts_are = parts_more p degree is;
        few = omega (arith, length_push ps p);
        rows_are = λ _. rows_more (modulus_of ring) rows old new ps p ts (h.rows_are two) same listed coefficients low;
      })

  -- the same numbers
  pub series_same : (new : List (List ℕ)) → SameEntries rows new → IsSeries ring ps new
  series_same new same = record {
    parts_are = h.parts_are;
    few = h.few;
    rows_are = λ two. rows_same (modulus_of ring) rows new ps (h.rows_are two) same;
  }

  -- what the terms of the next part find at their places: 0
  pub next_empty : (p : PartValue) (ts : List Term) → IsContiguous ring → p.degree ≡ length ps → IsPartOf ring p →
      map entry_of ts ≡ entries p.map → (old : List (List ℕ)) → SameEntries rows old → All IsPairTerm ts →
      All (IsHeld old (λ t. 0)) ts
  next_empty p ts two degree is listed old same pairs i d lt =
      same _ _ ∙ (h.rows_are two).coefficients _ _ ∙
      ap (λ (k : Key 8). total (indicator k) (all_entries ps)) (sym (pairs i d lt)) ∙
      lower_none ring two ps h.parts_are p.degree (key_of (get_or ts i d).monomial) (omega arith)
      (all_unmapped (λ (e : Key 8 × ℕ). IsKeyOf (weights_of ring) p.degree e.0) entry_of ts
      (subst (All (λ e. IsKeyOf (weights_of ring) p.degree e.0)) (sym listed) (λ j e k. (is j e k).0)) i d lt)

  -- what is put stays below the modulus
  pub next_low : (p : PartValue) (ts : List Term) (old new : List (List ℕ)) → IsContiguous ring → IsPartOf ring p →
      map entry_of ts ≡ entries p.map → SameEntries rows old →
      ((m : ℕ) → All (λ t. t.coefficient < m) ts → ((f q : ℕ) → entry old f q < m) → (f q : ℕ) → entry new f q < m) →
      (f q : ℕ) → entry new f q < modulus_of ring
  next_low p ts old new two is listed same low = low (modulus_of ring)
      (all_unmapped (λ (e : Key 8 × ℕ). e.1 < modulus_of ring) entry_of ts
      (subst (All (λ e. e.1 < modulus_of ring)) (sym listed) (λ j e k. (is j e k).1)))
      (λ f q. subst (λ n. n < modulus_of ring) (sym (same f q)) ((h.rows_are two).residues f q))

-- series with a part less
module _ (ring : Ring) (less : List PartValue) (p : PartValue) (rows : List (List ℕ))
    (h : IsSeries ring (less ++ p ∷ []) rows) where
  less_parts : AreSeriesParts ring less
  less_parts s lt = subst (λ (q : PartValue). (q.degree ≡ s) × IsPartOf ring q)
      (get_or_append_left less (p ∷ []) nothing s lt) (h.parts_are s (omega (arith, length_push less p)))

  pub last_is : (p.degree ≡ length less) × IsPartOf ring p
  last_is = subst (λ (q : PartValue). (q.degree ≡ length less) × IsPartOf ring q) (get_or-append_seam less p [] nothing)
      (h.parts_are (length less) (omega (arith, length_push less p)))

  few_less : length less ≤ 4096
  few_less = let few = h.few in omega (arith, length_push less p)

  pub series_less_none : (IsContiguous ring → ⊥) → IsSeries ring less rows
  series_less_none none = record {
    parts_are = less_parts;
    few = few_less;
    rows_are = λ two. absurd (none two);
  }

  pub series_less : (new : List (List ℕ)) (ts : List Term) → IsContiguous ring → map entry_of ts ≡ entries p.map →
      ((f q : ℕ) → entry rows f q ≡ entry new f q + total (indicator (pair_key q f)) (map entry_of ts)) →
      IsSeries ring less new
  series_less new ts two listed coefficients = record {
    parts_are = less_parts;
    few = few_less;
    rows_are = λ _. rows_less (modulus_of ring) rows new less p ts (h.rows_are two) listed coefficients;
  }

  -- its terms stand at their places
  pub last_held : (ts : List Term) → IsContiguous ring → map entry_of ts ≡ entries p.map →
      T (is_sorted (key_compare 8) (map entry_of ts)) → All IsPairTerm ts → All (IsHeld rows (λ t. t.coefficient)) ts
  last_held ts two listed sorted pairs i d lt =
      (h.rows_are two).coefficients _ _ ∙
      ap (λ (k : Key 8). total (indicator k) (all_entries (less ++ p ∷ []))) (sym (pairs i d lt)) ∙
      total-push (indicator (key_at_place ts i d)) less p ∙
      (λ j. lower_none ring two less less_parts p.degree (key_at_place ts i d) (let e = last_is.0 in omega arith) key j +
      (ap (total (indicator (key_at_place ts i d))) (sym listed) ∙ own_coefficient ts i d sorted lt) j) ∙ omega arith
    where
      key : IsKeyOf (weights_of ring) p.degree (key_at_place ts i d)
      key = all_unmapped (λ (e : Key 8 × ℕ). IsKeyOf (weights_of ring) p.degree e.0) entry_of ts
          (subst (All (λ e. IsKeyOf (weights_of ring) p.degree e.0)) (sym listed) (λ j e k. (last_is.1 j e k).0)) i d lt

  pub last_places : (ts : List Term) → All (λ t. 0 < t.coefficient) ts → All (IsHeld rows (λ t. t.coefficient)) ts →
      All (HasPlaceOf rows) ts
  last_places ts some held i d lt = held_place rows _ _ (subst (λ n. 0 < n) (sym (held i d lt)) (some i d lt))

-- the coefficient of a product of two series
pub product_at : (ring_a ring_w ring : Ring) (ps qs a w : List PartValue) (A W : List (List ℕ)) (x : MonomialValue)
    (p f : ℕ) (s t : ProductSumValue) → IsSeries ring_a ps A → IsSeries ring_w qs W → ring_a ≡ ring → ring_w ≡ ring →
    ps ≡ a → qs ≡ w → IsContiguous ring → IsPairKey x → p ≡ get_or x.powers 0 0 → f ≡ get_or x.powers 1 0 →
    Gains s t (crossed_entry A W f p) → Gains s t (crossed_total (indicator (key_of x)) a w)
product_at ring_a ring_w ring ps qs a w A W x p f s t one other a_ring w_ring a_is w_is two pair p_is f_is gains =
    subst (λ n. Gains s t n) (crossed_rows ring two (modulus_of ring) p f A W a w (left.rows_are two)
    (right.rows_are two) left.parts_are right.parts_are ∙
    ap (λ (k : Key 8). crossed_total (indicator k) a w) ((λ i. pair_key (p_is i) (f_is i)) ∙ sym pair)) gains
  where
    left : IsSeries ring a A
    left = subst (λ (r : Ring). IsSeries r a A) a_ring (subst (λ (l : List PartValue). IsSeries ring_a l A) a_is one)

    right : IsSeries ring w W
    right = subst (λ (r : Ring). IsSeries r w W) w_ring (subst (λ (l : List PartValue). IsSeries ring_w l W) w_is other)

-- monomials, and so terms of parts, are in two variables
pub monomial_pair : (ring : Ring) → IsContiguous ring → (d : ℕ) (x : MonomialValue) →
    IsKeyOf (weights_of ring) d (key_of x) → IsPairKey x
monomial_pair ring two d x is = pair_powers x.powers (key_pair ring two d (key_of x) is)
  where
    first_is : (xs : List ℕ) → (key_from xs).powers.0 ≡ get_or xs 0 0
    first_is [] = refl
    first_is (x ∷ xs) = refl

    second_is : (xs : List ℕ) → (key_from xs).powers.1.0 ≡ get_or xs 1 0
    second_is [] = refl
    second_is (x ∷ []) = refl
    second_is (x ∷ y ∷ xs) = refl

    pair_powers : (xs : List ℕ) → IsPair (key_from xs) → key_from xs ≡ pair_key (get_or xs 0 0) (get_or xs 1 0)
    pair_powers xs e = e ∙ (λ j. pair_key (first_is xs j) (second_is xs j))

pub terms_pairs : (ring : Ring) → IsContiguous ring → (p : PartValue) (ts : List Term) → IsPartOf ring p →
    map entry_of ts ≡ entries p.map → All IsPairTerm ts
terms_pairs ring two p ts is listed i d lt =
    monomial_pair ring two p.degree (get_or ts i d).monomial
    (all_unmapped (λ (e : Key 8 × ℕ). IsKeyOf (weights_of ring) p.degree e.0) entry_of ts
    (subst (All (λ e. IsKeyOf (weights_of ring) p.degree e.0)) (sym listed) (λ j e k. (is j e k).0)) i d lt)
