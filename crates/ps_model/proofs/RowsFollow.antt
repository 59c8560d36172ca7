-- The formulas give slices: rows computed by them are rows.
use Rattle.std.proofs.Common.{◌≡◌, ℕ, zero, suc, ◌+◌, ◌-◌, ◌<◌, ◌≤◌, List, [], ◌∷◌, ◌++◌, length, get_or, sym, ◌∙◌}
use Rattle.std.proofs.Common.{ap}
use Rattle.std.proofs.Common.{subst, arith, inl, inr, ◌⊎◌}
use Rattle.std.proofs.lemmas.Bool.{cases_lt}
use Rattle.std.proofs.lemmas.List.{get_or_append_left, get_or_default}
use Rattle.std.proofs.Math.Seq.{get_or-append_seam}
use Rattle.std.proofs.Math.ListN.{get_or-eq_default}
use Rattle.std.specs.FinMap.{FinMap, empty}
use Rattle.ps_model.specs.Ring.{Ring}
use Rattle.ps_model.specs.Polynomial.{Polynomial, of_map, zero as nought, negative, difference, product}
use Rattle.ps_model.specs.Polynomial.{sum_between}
use Rattle.ps_model.specs.Truncation.{homogeneous_part}
use Rattle.ps_model.specs.Recurrences.{crossed_product, FollowsRecurrences}
use Rattle.ps_model.specs.Bounds.{IsSlice}
use Rattle.ps_model.specs.Slices.{slice_at}
use Rattle.ps_model.specs.Rows.{part_at, IsRow, AreRows}
use Rattle.ps_model.proofs.Homogeneous.{homogeneous-product}
use Rattle.ps_model.proofs.SumsBetween.{sum_between-same, sum_between-through}
use Rattle.ps_model.proofs.Slices.{slice_at-sum}
use Rattle.ps_model.proofs.SliceValues.{slice_at-zero, slice_degree, slice_y_degree, slice_from}
use Rattle.ps_model.proofs.SlicesShifted.{slice-sum, slice-scaled}
use Rattle.ps_model.proofs.OfMap.{of_map-empty}

module _ (R : Ring) where
  pub slice-product : (s t : ℕ) (p q : Polynomial R) → IsSlice s p → IsSlice t q → IsSlice (s + t) (product R p q)
  slice-product s t p q hp hq = slice_from R (s + t) _ (homogeneous-product R R.degree R.degree_adds s t p q
      (slice_degree R s p hp) (slice_degree R t q hq))
      (ap (λ n. homogeneous_part R R.y_degree n (product R p q)) none ∙ homogeneous-product R R.y_degree R.y_degree_adds
      0 0 p q (slice_y_degree R s p hp) (slice_y_degree R t q hq))
    where
      none : 0 ≡ 0 + 0
      none = omega arith

  pub slice-zero : (r : ℕ) → IsSlice r (nought R)
  slice-zero r = slice_at-zero R r 0

  pub slice-difference : (r : ℕ) (p q : Polynomial R) → IsSlice r p → IsSlice r q → IsSlice r (difference R p q)
  unfolding difference negative
  slice-difference r p q hp hq = slice-sum R r p _ hp (slice-scaled R r _ q hq)

  pub slice-sum_between : (r a b : ℕ) (f : ℕ → Polynomial R) → ((i : ℕ) → a ≤ i → i < b → IsSlice r (f i))
      → IsSlice r (sum_between R a b f)
  slice-sum_between r a b f h = sum_between-through R (slice_at R r 0) (slice_at-zero R r 0) (slice_at-sum R r 0) a b f
      ∙ sum_between-same R a b _ f h

  pub part_slice : (K : ℕ) (rows : List (List (FinMap R.compare ℕ))) (s j : ℕ) → AreRows R K rows → s < length rows
      → IsSlice s (part_at R rows s j)
  part_slice K rows s j h lt =
      elim (cases_lt j (length (get_or rows s []))) as (λ _. IsSlice s (part_at R rows s j)) [
        | inl low ↦ (h s lt).slices j empty low
        | inr high ↦ subst (IsSlice s) (sym (ap (of_map R) (get_or-eq_default (get_or rows s []) empty high)
            ∙ of_map-empty R)) (slice-zero s)
      ]

  module _ (k q d e : ℕ) (rows_p rows_u : List (List (FinMap R.compare ℕ))) (row_p row_u b : List (FinMap R.compare ℕ))
      (ps : AreRows R k rows_p) (us : AreRows R q rows_u) (n_p : length rows_p ≡ suc d) (n_u : length rows_u ≡ suc d)
      (places_p : length row_p ≡ suc k) (places_u : length row_u ≡ suc q) (given : IsRow R (k + q) (suc d) b)
      (top : of_map R (get_or row_p k empty) ≡ nought R)
      (follows : FollowsRecurrences k q (suc d) e (λ l. of_map R (get_or b l empty))
      (part_at R (rows_p ++ row_p ∷ [])) (part_at R (rows_u ++ row_u ∷ []))) where
    abbrev a : ℕ → ℕ → Polynomial R
    a = part_at R (rows_p ++ row_p ∷ [])

    abbrev w : ℕ → ℕ → Polynomial R
    w = part_at R (rows_u ++ row_u ∷ [])

    early_a : (s i : ℕ) → s ≤ d → IsSlice s (a s i)
    early_a s i le =
        let low : s < length rows_p = omega arith in
        subst (λ row. IsSlice s (of_map R (get_or row i empty)))
        (sym (get_or_append_left rows_p (row_p ∷ []) [] s low)) (part_slice k rows_p s i ps low)

    early_w : (s h : ℕ) → s ≤ d → IsSlice s (w s h)
    early_w s h le =
        let low : s < length rows_u = omega arith in
        subst (λ row. IsSlice s (of_map R (get_or row h empty)))
        (sym (get_or_append_left rows_u (row_u ∷ []) [] s low)) (part_slice q rows_u s h us low)

    last_a : (i : ℕ) → a (suc d) i ≡ of_map R (get_or row_p i empty)
    last_a i = ap (λ row. of_map R (get_or row i empty)) (ap (λ n. get_or (rows_p ++ row_p ∷ []) n []) (sym n_p)
        ∙ get_or-append_seam rows_p row_p [] [])

    last_w : (j : ℕ) → w (suc d) j ≡ of_map R (get_or row_u j empty)
    last_w j = ap (λ row. of_map R (get_or row j empty)) (ap (λ n. get_or (rows_u ++ row_u ∷ []) n []) (sym n_u)
        ∙ get_or-append_seam rows_u row_u [] [])

    b_slice : (l : ℕ) → l ≤ k + q → IsSlice (suc d) (of_map R (get_or b l empty))
    b_slice l le = given.slices l empty (let n = given.places in omega arith)

    term_slice : (s i h : ℕ) → 1 ≤ s → s ≤ suc d → IsSlice s (a s i)
        → IsSlice (suc d) (product R (a s i) (w (suc d - s) h))
    term_slice s i h lo hi is = subst (λ n. IsSlice n (product R (a s i) (w (suc d - s) h))) (whole s hi)
        (slice-product s (suc d - s) _ _ is (early_w (suc d - s) h (omega arith)))
      where
        whole : (s : ℕ) → s ≤ suc d → s + (suc d - s) ≡ suc d
        whole s hi = omega arith

    crossed_slice : (i h : ℕ) → IsSlice (suc d) (a (suc d) i) → IsSlice (suc d) (crossed_product (suc d) a w i h)
    crossed_slice i h is = slice-sum_between (suc d) 1 (suc (suc d)) _
        (λ s lo hi. term_slice s i h lo (omega arith) (at s (cases_lt s (suc d)) (omega arith)))
      where
        at : (s : ℕ) → (s < suc d) ⊎ (suc d ≤ s) → s ≤ suc d → IsSlice s (a s i)
        at s (inl lt) le = early_a s i (omega arith)
        at s (inr ge) le = let same : suc d ≡ s = omega arith in subst (λ n. IsSlice n (a n i)) same is

    new_slice : (i : ℕ) → i ≤ k → (h : ℕ) → h < i → IsSlice (suc d) (a (suc d) h)
    new_slice zero le h lt = absurd (omega arith)
    new_slice (suc i) le h lt = elim (cases_lt h i) as (λ _. IsSlice (suc d) (a (suc d) h)) [
      | inl low ↦ new_slice i (omega arith) h low
      | inr high ↦ let is : i ≡ h = omega arith in subst (λ n. IsSlice (suc d) (a (suc d) n)) is
          (subst (IsSlice (suc d)) (sym (follows.of_p i (omega arith)))
          (slice-scaled R (suc d) e _ (slice-difference (suc d) _ _ (b_slice i (omega arith))
          (slice-sum R (suc d) _ _
          (slice-sum_between (suc d) 0 i _ (λ g _ gi. crossed_slice g (i - g) (new_slice i (omega arith) g gi)))
          (slice-sum_between (suc d) 1 (suc d) _
          (λ s lo hi. term_slice s i 0 lo (omega arith) (early_a s i (omega arith))))))))
    ]

    pub row_p_is : IsRow R k (suc d) row_p
    row_p_is = record {
      places = places_p;
      slices = λ i x lt. subst (λ m. IsSlice (suc d) (of_map R m))
          (get_or_default row_p i empty x lt) (at i (cases_lt i k) (omega arith));
    }
      where
        at : (i : ℕ) → (i < k) ⊎ (k ≤ i) → i ≤ k → IsSlice (suc d) (of_map R (get_or row_p i empty))
        at i (inl lt) le = subst (IsSlice (suc d)) (last_a i) (new_slice k (omega arith) i lt)
        at i (inr ge) le = let same : k ≡ i = omega arith in subst
            (λ n. IsSlice (suc d) (of_map R (get_or row_p n empty))) same
            (subst (IsSlice (suc d)) (sym top) (slice-zero (suc d)))

    pub row_u_is : IsRow R q (suc d) row_u
    row_u_is = record {
      places = places_u;
      slices = λ j x lt. subst (λ m. IsSlice (suc d) (of_map R m))
          (get_or_default row_u j empty x lt) (at j (omega arith));
    }
      where
        at : (j : ℕ) → j ≤ q → IsSlice (suc d) (of_map R (get_or row_u j empty))
        at j le = subst (IsSlice (suc d)) (last_w j) (subst (IsSlice (suc d)) (sym (follows.of_u j le))
            (slice-difference (suc d) _ _ (b_slice (k + j) (omega arith))
            (slice-sum_between (suc d) 0 k _ (λ i _ lt. crossed_slice i (k + j - i) (new_slice k (omega arith) i lt)))))
