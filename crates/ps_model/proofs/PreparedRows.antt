-- Rows of a prepared pair: the first, and the next.
use Rattle.std.proofs.Common.{◌≡◌, ℕ, zero, suc, ◌+◌, ◌-◌, ◌*◌, ◌%◌, ◌<◌, ◌≤◌, cond, List, [], ◌∷◌, ◌++◌, length}
use Rattle.std.proofs.Common.{get_or, sym, ◌∙◌, ap, subst, arith, inl, inr}
use Rattle.std.proofs.lemmas.Bool.{cases_lt}
use Rattle.std.proofs.lemmas.List.{get_or_append_left, length-append}
use Rattle.std.proofs.Math.Seq.{get_or-append_seam}
use Rattle.std.proofs.Math.Nat.{mul-one, mod-eq_of_lt}
use Rattle.std.specs.FinMap.{FinMap, empty}
use Rattle.ps_model.specs.Ring.{Ring}
use Rattle.ps_model.specs.Polynomial.{Polynomial, of_map, zero as nought, one, coefficient, sum, scaled, difference}
use Rattle.ps_model.specs.Polynomial.{product, sum_between}
use Rattle.ps_model.specs.Truncation.{truncated}
use Rattle.ps_model.specs.Bounds.{HasNoPowerAbove, HasNoDegreeAbove, IsMonic, IsUnit}
use Rattle.ps_model.specs.Prepared.{IsPrepared}
use Rattle.ps_model.specs.Recurrences.{crossed_product, FollowsRecurrences}
use Rattle.ps_model.specs.Slices.{slice_at}
use Rattle.ps_model.specs.Rows.{part_at, polynomial_of_rows, IsRow, AreRows, IsRowOf}
use Rattle.ps_model.proofs.Coefficients.{itself, small}
use Rattle.ps_model.proofs.Truncations.{truncated-zero}
use Rattle.ps_model.proofs.Below.{truncated-below}
use Rattle.ps_model.proofs.Division.{y_power}
use Rattle.ps_model.proofs.Origin.{coefficient-monomial, coefficient-truncated_constant}
use Rattle.ps_model.proofs.Preparation.{flat_y}
use Rattle.ps_model.proofs.Existence.{monic_y_degree}
use Rattle.ps_model.proofs.Monic.{monic-y}
use Rattle.ps_model.proofs.Slices.{same_slices}
use Rattle.ps_model.proofs.SliceValues.{slice_at-top, slice_at-top_later, slice_at-flat, slice_at-constant}
use Rattle.ps_model.proofs.SliceValues.{slice_at-truncated, monic_from_slices}
use Rattle.ps_model.proofs.Rows.{slice_at-rows, rows_no_power_above, rows_no_degree_above, rows-truncated}
use Rattle.ps_model.proofs.Recurrences.{prepared_step, prepared_first}

-- formulas over other names of the same slices
FollowsRecurrences-same : (R : Ring) (k q r e : ℕ) (b c : ℕ → Polynomial R) (a w : ℕ → ℕ → Polynomial R)
    → ((l : ℕ) → l ≤ k + q → b l ≡ c l)
    → FollowsRecurrences k q r e b a w → FollowsRecurrences k q r e c a w
FollowsRecurrences-same R k q r e b c a w same h = record {
  of_p = λ i lt. h.of_p i lt
      ∙ ap (λ t. scaled R e
      (difference R t (sum R (sum_between R 0 i (λ h. crossed_product r a w h (i - h)))
      (sum_between R 1 r (λ s. product R (a s i) (w (r - s) 0)))))) (same i (omega arith));
  of_u = λ j le. h.of_u j le ∙ ap (λ t. difference R t (sum_between R 0 k (λ i. crossed_product r a w i (k + j - i))))
      (same (k + j) (omega arith));
}

module _ (R : Ring) where
  -- the constant of a slice of degree 0
  pub coefficient-slice_at : (j : ℕ) (p : Polynomial R) → coefficient R (slice_at R 0 j p) R.origin ≡ coefficient R p
      (R.y j)
  coefficient-slice_at j p = ap (λ t. coefficient R t R.origin) (slice_at-constant R j p)
      ∙ coefficient-monomial R _ R.origin R.origin
      ∙ ap (λ b. (coefficient R p (R.y j) * cond b 1 0) % R.modulus)
      (itself R.compare R.total_order R.antisymmetric R.origin) ∙ ap (λ n. n % R.modulus) (mul-one _)
      ∙ mod-eq_of_lt (small R p (R.y j))

  pub coefficient-constant : (u : Polynomial R) → coefficient R (slice_at R 0 0 u) R.origin ≡ coefficient R u R.origin
  coefficient-constant u = coefficient-slice_at 0 u ∙ ap (coefficient R u) R.y-zero

  pub rows_push : (K : ℕ) (rows : List (List (FinMap R.compare ℕ))) (row : List (FinMap R.compare ℕ)) → AreRows R K rows
      → IsRow R K (length rows) row → AreRows R K (rows ++ row ∷ [])
  rows_push K rows row h is i lt = elim (cases_lt i (length rows)) as
      (λ _. IsRow R K i (get_or (rows ++ row ∷ []) i [])) [
        | inl low ↦ subst (IsRow R K i) (sym (get_or_append_left rows (row ∷ []) [] i low)) (h i low)
        | inr high ↦
            let last : i ≡ length rows = omega (arith, length-append rows (row ∷ [])) in
            subst (λ n. IsRow R K n (get_or (rows ++ row ∷ []) n [])) (sym last)
            (subst (IsRow R K (length rows)) (sym (get_or-append_seam rows row [] [])) is)
      ]

  -- Y^k, by its slices
  y_power_is : (k : ℕ) (p : Polynomial R) → HasNoPowerAbove k p → HasNoDegreeAbove 0 p
      → ((j : ℕ) → j < k → slice_at R 0 j p ≡ nought R) → slice_at R 0 k p ≡ one R → p ≡ y_power R k
  y_power_is k p powers within low top = sym within ∙ same_slices R 0 k p (y_power R k) powers
      (truncated-below R R.y_degree k _ ∙ monic_y_degree R k _ (monic-y R k)) same ∙ flat
    where
      flat : truncated R R.degree 0 (y_power R k) ≡ y_power R k
      flat = truncated-zero R R.degree _ ∙ flat_y R k

      at_zero : (j : ℕ) → j ≤ k → slice_at R 0 j p ≡ slice_at R 0 j (y_power R k)
      at_zero j lj = elim (cases_lt j k) as (λ _. slice_at R 0 j p ≡ slice_at R 0 j (y_power R k)) [
        | inl lt ↦ low j lt ∙ sym (slice_at-flat R k j (y_power R k) flat (λ e. omega arith))
        | inr ge ↦
            let is : j ≡ k = omega arith in
            subst (λ n. slice_at R 0 n p ≡ slice_at R 0 n (y_power R k)) (sym is)
            (top ∙ sym (slice_at-top R k (y_power R k) (monic-y R k)))
      ]

      same : (r j : ℕ) → r ≤ 0 → j ≤ k → slice_at R r j p ≡ slice_at R r j (y_power R k)
      same r j lr lj = subst (λ n. slice_at R n j p ≡ slice_at R n j (y_power R k)) (none r lr) (at_zero j lj)
        where
          none : (r : ℕ) → r ≤ 0 → 0 ≡ r
          none r h = omega arith

module _ (R : Ring) (k q : ℕ) (G : Polynomial R) (G_powers : HasNoPowerAbove (k + q) G) where
  pub rows_first : (row_p row_u b : List (FinMap R.compare ℕ)) → IsRowOf (k + q) 0 G b → IsRow R k 0 row_p
      → IsRow R q 0 row_u
      → ((i : ℕ) → i < k → of_map R (get_or b i empty) ≡ nought R)
      → IsUnit R.modulus (coefficient R (of_map R (get_or b k empty)) R.origin)
      → ((i : ℕ) → i < k → of_map R (get_or row_p i empty) ≡ nought R) → of_map R (get_or row_p k empty) ≡ one R
      → ((j : ℕ) → j ≤ q → of_map R (get_or row_u j empty) ≡ of_map R (get_or b (k + j) empty))
      → IsPrepared G k q 0 (polynomial_of_rows R (row_p ∷ [])) (polynomial_of_rows R (row_u ∷ []))
  rows_first row_p row_u b b_is p_row u_row none unit p_low p_top u_is =
      prepared_first R k q G p u G_powers (subst (IsMonic k) (sym p_is) (monic-y R k))
      (rows_no_power_above R q (row_u ∷ []) us) p_is (rows_no_degree_above R q 0 (row_u ∷ []) us (omega arith))
      (subst (IsUnit R.modulus) u_constant unit)
      (λ l lt. sym (b_is.slices l (omega arith)) ∙ none l lt)
      (λ j le. at_u j ∙ u_is j le ∙ b_is.slices (k + j) (omega arith))
    where
      p : Polynomial R
      p = polynomial_of_rows R (row_p ∷ [])

      u : Polynomial R
      u = polynomial_of_rows R (row_u ∷ [])

      one_row : (K : ℕ) (row : List (FinMap R.compare ℕ)) → IsRow R K 0 row → (i : ℕ) → i < 1
          → IsRow R K i (get_or (row ∷ []) i [])
      one_row K row h zero lt = h
      one_row K row h (suc i) lt = absurd (omega arith)

      ps : AreRows R k (row_p ∷ [])
      ps = one_row k row_p p_row

      us : AreRows R q (row_u ∷ [])
      us = one_row q row_u u_row

      at_p : (j : ℕ) → slice_at R 0 j p ≡ of_map R (get_or row_p j empty)
      at_p j = slice_at-rows R k 0 j (row_p ∷ []) ps

      at_u : (j : ℕ) → slice_at R 0 j u ≡ of_map R (get_or row_u j empty)
      at_u j = slice_at-rows R q 0 j (row_u ∷ []) us

      p_is : p ≡ y_power R k
      p_is = y_power_is R k p (rows_no_power_above R k (row_p ∷ []) ps)
          (rows_no_degree_above R k 0 (row_p ∷ []) ps (omega arith)) (λ j lt. at_p j ∙ p_low j lt) (at_p k ∙ p_top)

      plain : k ≡ k + 0
      plain = omega arith

      u_constant : coefficient R (of_map R (get_or b k empty)) R.origin ≡ coefficient R u R.origin
      u_constant = ap (λ t. coefficient R t R.origin) (ap (λ n. of_map R (get_or b n empty)) plain
          ∙ sym (u_is 0 (omega arith)) ∙ sym (at_u 0)) ∙ coefficient-constant R u

  module _ (d e : ℕ) (rows_p rows_u : List (List (FinMap R.compare ℕ))) (row_p row_u b : List (FinMap R.compare ℕ))
      (ps : AreRows R k rows_p) (us : AreRows R q rows_u) (n_p : length rows_p ≡ suc d) (n_u : length rows_u ≡ suc d)
      (p_row : IsRow R k (suc d) row_p) (u_row : IsRow R q (suc d) row_u) where
    more_p : AreRows R k (rows_p ++ row_p ∷ [])
    more_p = rows_push R k rows_p row_p ps (subst (λ n. IsRow R k n row_p) (sym n_p) p_row)

    more_u : AreRows R q (rows_u ++ row_u ∷ [])
    more_u = rows_push R q rows_u row_u us (subst (λ n. IsRow R q n row_u) (sym n_u) u_row)

    abbrev p : Polynomial R
    p = polynomial_of_rows R (rows_p ++ row_p ∷ [])

    abbrev u : Polynomial R
    u = polynomial_of_rows R (rows_u ++ row_u ∷ [])

    old_p : truncated R R.degree d p ≡ polynomial_of_rows R rows_p
    old_p = rows-truncated R k d rows_p row_p ps n_p p_row

    old_u : truncated R R.degree d u ≡ polynomial_of_rows R rows_u
    old_u = rows-truncated R q d rows_u row_u us n_u u_row

    last_p : (j : ℕ) → slice_at R (suc d) j p ≡ of_map R (get_or row_p j empty)
    last_p j = slice_at-rows R k (suc d) j _ more_p
        ∙ ap (λ row. of_map R (get_or row j empty)) (ap (λ n. get_or (rows_p ++ row_p ∷ []) n []) (sym n_p)
        ∙ get_or-append_seam rows_p row_p [] [])

    p_within : HasNoDegreeAbove (suc d) p
    p_within = rows_no_degree_above R k (suc d) _ more_p (omega (arith, length-append rows_p (row_p ∷ [])))

    u_within : HasNoDegreeAbove (suc d) u
    u_within = rows_no_degree_above R q (suc d) _ more_u (omega (arith, length-append rows_u (row_u ∷ [])))

    p_monic : IsMonic k (polynomial_of_rows R rows_p) → of_map R (get_or row_p k empty) ≡ nought R → IsMonic k p
    p_monic before top = monic_from_slices R (suc d) k p (rows_no_power_above R k _ more_p) p_within
        (sym (slice_at-truncated R d 0 k p (omega arith)) ∙ ap (slice_at R 0 k) old_p ∙ slice_at-top R k _ before) later
      where
        later : (r : ℕ) → 0 < r → r ≤ suc d → slice_at R r k p ≡ nought R
        later r pos le = elim (cases_lt r (suc d)) as (λ _. slice_at R r k p ≡ nought R) [
          | inl lt ↦ sym (slice_at-truncated R d r k p (omega arith)) ∙ ap (slice_at R r k) old_p
              ∙ slice_at-top_later R r k _ before pos
          | inr ge ↦
              let is : r ≡ suc d = omega arith in
              ap (λ n. slice_at R n k p) is ∙ last_p k ∙ top
        ]

    u_constant : coefficient R (part_at R rows_u 0 0) R.origin ≡ coefficient R u R.origin
    u_constant = ap (λ t. coefficient R t R.origin) (sym (slice_at-rows R q 0 0 rows_u us)) ∙ coefficient-constant R _
        ∙ ap (λ t. coefficient R t R.origin) (sym old_u) ∙ coefficient-truncated_constant R d u

    pub rows_next : IsRowOf (k + q) (suc d) G b → of_map R (get_or row_p k empty) ≡ nought R
        → (coefficient R (part_at R rows_u 0 0) R.origin * e) % R.modulus ≡ 1
        → IsPrepared G k q d (polynomial_of_rows R rows_p) (polynomial_of_rows R rows_u)
        → FollowsRecurrences k q (suc d) e (λ l. of_map R (get_or b l empty)) (part_at R (rows_p ++ row_p ∷ []))
        (part_at R (rows_u ++ row_u ∷ []))
        → IsPrepared G k q (suc d) p u
    rows_next b_is top inverts before follows = prepared_step R k q G p u G_powers (p_monic before.monic top)
        (rows_no_power_above R q _ more_u) d e p_within u_within
        was
        (ap (λ c. (c * e) % R.modulus) (sym u_constant) ∙ inverts) formulas
      where
        was : IsPrepared G k q d (truncated R R.degree d p) (truncated R R.degree d u)
        was = subst (λ t. IsPrepared G k q d t (truncated R R.degree d u)) (sym old_p)
            (subst (IsPrepared G k q d (polynomial_of_rows R rows_p)) (sym old_u) before)

        formulas : FollowsRecurrences k q (suc d) e (λ l. slice_at R (suc d) l G) (λ s i. slice_at R s i p)
            (λ s j. slice_at R s j u)
        formulas = FollowsRecurrences-same R k q (suc d) e _ _ _ _ (λ l le. b_is.slices l le)
            (subst (λ t. FollowsRecurrences k q (suc d) e (λ l. of_map R (get_or b l empty)) t
            (λ s j. slice_at R s j u)) (λ i s j. sym (slice_at-rows R k s j (rows_p ++ row_p ∷ []) more_p) i)
            (subst (FollowsRecurrences k q (suc d) e (λ l. of_map R (get_or b l empty))
            (part_at R (rows_p ++ row_p ∷ []))) (λ i s j. sym (slice_at-rows R q s j (rows_u ++ row_u ∷ []) more_u)
            i) follows))
