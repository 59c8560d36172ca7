-- Rows and the polynomials put together from them.
use Rattle.std.proofs.Common.{◌≡◌, ℕ, zero, suc, ◌+◌, ◌<◌, ◌≤◌, List, [], ◌∷◌, ◌++◌, length, get_or, sym, ◌∙◌, ap}
use Rattle.std.proofs.Common.{subst, arith}
use Rattle.std.specs.List.{All}
use Rattle.std.specs.FinMap.{FinMap, empty}
use Rattle.ps_model.specs.Ring.{Ring}
use Rattle.ps_model.specs.Polynomial.{Polynomial, of_map, zero as nought, sum}
use Rattle.ps_model.specs.Truncation.{truncated}
use Rattle.ps_model.specs.Bounds.{HasNoPowerAbove, HasNoDegreeAbove}
use Rattle.ps_model.specs.Bounds.{IsSlice}
use Rattle.ps_model.specs.Slices.{slice_at}
use Rattle.ps_model.specs.Rows.{part_at, polynomial_of_row, polynomial_of_rows, IsRow, AreRows}
use Rattle.ps_model.proofs.RingLaws.{zero-sum, sum-zero, sum-assoc}
use Rattle.ps_model.proofs.Truncations.{truncated-sum}
use Rattle.ps_model.proofs.Below.{below, truncated-below, below-nothing, below-sum, below-homogeneous_part}
use Rattle.ps_model.proofs.Homogeneous.{IsHomogeneous, homogeneous-sum}
use Rattle.ps_model.proofs.Degrees.{homogeneous-below}
use Rattle.ps_model.proofs.Slices.{slice_at-sum}
use Rattle.ps_model.proofs.SliceValues.{slice_at-zero, slice_at-raised, slice_at-raised_other, slice_at-raised_degree}
use Rattle.ps_model.proofs.SliceValues.{raised_homogeneous, raised_y_degree, part-nothing}
use Rattle.ps_model.proofs.OfMap.{of_map-empty}

module _ (R : Ring) where
  AreSlices : ℕ → List (FinMap R.compare ℕ) → Type 0
  AreSlices r row = All (λ m. IsSlice r (of_map R m)) row

  first_slice : (r : ℕ) (m : FinMap R.compare ℕ) (ms : List (FinMap R.compare ℕ)) → All (λ m. IsSlice r (of_map R m))
      (m ∷ ms) → IsSlice r (of_map R m)
  first_slice r m ms h = h 0 m (omega arith)

  later_slices : (r : ℕ) (m : FinMap R.compare ℕ) (ms : List (FinMap R.compare ℕ)) → All (λ m. IsSlice r (of_map R m))
      (m ∷ ms) → All (λ m. IsSlice r (of_map R m)) ms
  later_slices r m ms h = λ i d lt. h (suc i) d (omega arith)

  -- both zero
  none : (p q : Polynomial R) → p ≡ nought R → q ≡ nought R → sum R p q ≡ nought R
  none p q hp hq = (λ i. sum R (hp i) (hq i)) ∙ zero-sum R _

  row_below : (r j l : ℕ) (row : List (FinMap R.compare ℕ)) → All (λ m. IsSlice r (of_map R m)) row → l < j
      → slice_at R r l (polynomial_of_row R j row) ≡ nought R
  row_below r j l [] h lt = slice_at-zero R r l
  row_below r j l (m ∷ ms) h lt = slice_at-sum R r l _ _
      ∙ none _ _ (slice_at-raised_other R r l j (of_map R m) (first_slice r m ms h) (λ e. omega arith))
      (row_below r (suc j) l ms (later_slices r m ms h) (omega arith))

  pub row_slice : (r j i : ℕ) (row : List (FinMap R.compare ℕ)) → All (λ m. IsSlice r (of_map R m)) row
      → slice_at R r (j + i) (polynomial_of_row R j row) ≡ of_map R (get_or row i empty)
  row_slice r j i [] h = slice_at-zero R r _ ∙ sym (of_map-empty R)
  row_slice r j zero (m ∷ ms) h = ap (λ n. slice_at R r n (polynomial_of_row R j (m ∷ ms))) (omega arith)
      ∙ slice_at-sum R r j _ _
      ∙ (λ i. sum R (slice_at-raised R r j (of_map R m) (first_slice r m ms h) i)
      (row_below r (suc j) j ms (later_slices r m ms h) (omega arith) i)) ∙ sum-zero R _
  row_slice r j (suc i) (m ∷ ms) h = slice_at-sum R r _ _ _
      ∙ (λ l. sum R (slice_at-raised_other R r (j + suc i) j (of_map R m) (first_slice r m ms h) (λ e. omega arith) l)
      ((ap (λ n. slice_at R r n (polynomial_of_row R (suc j) ms)) (moved j i)
      ∙ row_slice r (suc j) i ms (later_slices r m ms h)) l)) ∙ zero-sum R _
    where
      moved : (j i : ℕ) → j + suc i ≡ suc j + i
      moved j i = omega arith

  row_other : (s r j l : ℕ) (row : List (FinMap R.compare ℕ)) → All (λ m. IsSlice r (of_map R m)) row → (s ≡ r → ⊥)
      → slice_at R s l (polynomial_of_row R j row) ≡ nought R
  row_other s r j l [] h ne = slice_at-zero R s l
  row_other s r j l (m ∷ ms) h ne = slice_at-sum R s l _ _
      ∙ none _ _ (slice_at-raised_degree R s r l j (of_map R m) (first_slice r m ms h) ne)
      (row_other s r (suc j) l ms (later_slices r m ms h) ne)

  pub row_homogeneous : (r j : ℕ) (row : List (FinMap R.compare ℕ)) → All (λ m. IsSlice r (of_map R m)) row
      → IsHomogeneous R R.degree r (polynomial_of_row R j row)
  row_homogeneous r j [] h = part-nothing R R.degree r
  row_homogeneous r j (m ∷ ms) h = homogeneous-sum R R.degree r _ _
      (raised_homogeneous R r j (of_map R m) (first_slice r m ms h))
      (row_homogeneous r (suc j) ms (later_slices r m ms h))

  pub row_powers : (r j K : ℕ) (row : List (FinMap R.compare ℕ)) → All (λ m. IsSlice r (of_map R m)) row
      → j + length row ≤ K → below R R.y_degree K (polynomial_of_row R j row) ≡ polynomial_of_row R j row
  row_powers r j K [] h le = below-nothing R R.y_degree K
  row_powers r j K (m ∷ ms) h le = below-sum R R.y_degree K _ _
      ∙ λ i. sum R (homogeneous-below R R.y_degree j K _ (omega arith)
      (raised_y_degree R r j (of_map R m) (first_slice r m ms h)) i) (row_powers r (suc j) K ms (later_slices r m ms h)
      (omega arith) i)

  -- rows of degrees r, r + 1 and so on
  RowsFrom : ℕ → ℕ → List (List (FinMap R.compare ℕ)) → Type 0
  RowsFrom K r rows = (i : ℕ) → i < length rows → IsRow R K (r + i) (get_or rows i [])

  module _ (K : ℕ) where
    first_row : (r : ℕ) (row : List (FinMap R.compare ℕ)) (rows : List (List (FinMap R.compare ℕ)))
        → ((i : ℕ) → i < suc (length rows) → IsRow R K (r + i) (get_or (row ∷ rows) i [])) → IsRow R K r row
    first_row r row rows h = subst (λ n. IsRow R K n row) (omega arith) (h 0 (omega arith))

    later_rows : (r : ℕ) (row : List (FinMap R.compare ℕ)) (rows : List (List (FinMap R.compare ℕ)))
        → ((i : ℕ) → i < suc (length rows) → IsRow R K (r + i) (get_or (row ∷ rows) i [])) → (i : ℕ) → i < length rows
        → IsRow R K (suc r + i) (get_or rows i [])
    later_rows r row rows h i lt = subst (λ n. IsRow R K n (get_or rows i [])) (omega arith) (h (suc i) (omega arith))

    rows_below : (r s j : ℕ) (rows : List (List (FinMap R.compare ℕ)))
        → ((i : ℕ) → i < length rows → IsRow R K (r + i) (get_or rows i [])) → s < r
        → slice_at R s j (polynomial_of_rows R rows) ≡ nought R
    rows_below r s j [] h lt = slice_at-zero R s j
    rows_below r s j (row ∷ rows) h lt = slice_at-sum R s j _ _
        ∙ none _ _ (row_other s r 0 j row ((first_row r row rows h).slices) (λ e. omega arith))
        (rows_below (suc r) s j rows (later_rows r row rows h) (omega arith))

    rows_slice : (r s j : ℕ) (rows : List (List (FinMap R.compare ℕ)))
        → ((i : ℕ) → i < length rows → IsRow R K (r + i) (get_or rows i []))
        → slice_at R (r + s) j (polynomial_of_rows R rows) ≡ part_at R rows s j
    rows_slice r s j [] h = slice_at-zero R _ j ∙ sym (of_map-empty R)
    rows_slice r zero j (row ∷ rows) h = ap (λ n. slice_at R n j (polynomial_of_rows R (row ∷ rows))) (omega arith)
        ∙ slice_at-sum R r j _ _
        ∙ (λ i. sum R ((ap (λ n. slice_at R r n (polynomial_of_row R 0 row)) (from_zero j)
        ∙ row_slice r 0 j row ((first_row r row rows h).slices)) i)
        (rows_below (suc r) r j rows (later_rows r row rows h) (omega arith) i)) ∙ sum-zero R _
      where
        from_zero : (j : ℕ) → j ≡ 0 + j
        from_zero j = omega arith
    rows_slice r (suc s) j (row ∷ rows) h = slice_at-sum R _ j _ _
        ∙ (λ i. sum R (row_other (r + suc s) r 0 j row ((first_row r row rows h).slices) (λ e. omega arith) i)
        ((ap (λ n. slice_at R n j (polynomial_of_rows R rows)) (moved r s) ∙ rows_slice (suc r) s j rows
        (later_rows r row rows h)) i)) ∙ zero-sum R _
      where
        moved : (r s : ℕ) → r + suc s ≡ suc r + s
        moved r s = omega arith

    rows_powers : (r : ℕ) (rows : List (List (FinMap R.compare ℕ)))
        → ((i : ℕ) → i < length rows → IsRow R K (r + i) (get_or rows i [])) → below R R.y_degree (suc K)
        (polynomial_of_rows R rows) ≡ polynomial_of_rows R rows
    rows_powers r [] h = below-nothing R R.y_degree _
    rows_powers r (row ∷ rows) h = below-sum R R.y_degree (suc K) _ _
        ∙ λ i. sum R (row_powers r 0 (suc K) row ((first_row r row rows h).slices)
        (let n = (first_row r row rows h).places in omega arith) i)
        (rows_powers (suc r) rows (later_rows r row rows h) i)

    rows_within : (r D : ℕ) (rows : List (List (FinMap R.compare ℕ)))
        → ((i : ℕ) → i < length rows → IsRow R K (r + i) (get_or rows i [])) → r + length rows ≤ D
        → below R R.degree D (polynomial_of_rows R rows) ≡ polynomial_of_rows R rows
    rows_within r D [] h le = below-nothing R R.degree D
    rows_within r D (row ∷ rows) h le = below-sum R R.degree D _ _
        ∙ λ i. sum R (homogeneous-below R R.degree r D _ (omega arith)
        (row_homogeneous r 0 row ((first_row r row rows h).slices)) i)
        (rows_within (suc r) D rows (later_rows r row rows h) (omega arith) i)

  from_start : (K : ℕ) (rows : List (List (FinMap R.compare ℕ))) → AreRows R K rows → (i : ℕ) → i < length rows
      → IsRow R K (0 + i) (get_or rows i [])
  from_start K rows h i lt = subst (λ n. IsRow R K n (get_or rows i [])) (omega arith) (h i lt)

  -- the slices are the rows' parts
  pub slice_at-rows : (K s j : ℕ) (rows : List (List (FinMap R.compare ℕ))) → AreRows R K rows
      → slice_at R s j (polynomial_of_rows R rows) ≡ part_at R rows s j
  slice_at-rows K s j rows h = ap (λ n. slice_at R n j (polynomial_of_rows R rows)) (omega arith)
      ∙ rows_slice K 0 s j rows (from_start K rows h)

  pub rows_no_power_above : (K : ℕ) (rows : List (List (FinMap R.compare ℕ))) → AreRows R K rows
      → HasNoPowerAbove K (polynomial_of_rows R rows)
  rows_no_power_above K rows h = truncated-below R R.y_degree K _ ∙ rows_powers K 0 rows (from_start K rows h)

  pub rows_no_degree_above : (K D : ℕ) (rows : List (List (FinMap R.compare ℕ))) → AreRows R K rows
      → length rows ≤ suc D → HasNoDegreeAbove D (polynomial_of_rows R rows)
  rows_no_degree_above K D rows h le = truncated-below R R.degree D _ ∙ rows_within K 0 (suc D) rows
      (from_start K rows h) (omega arith)

  pub rows-push : (rows : List (List (FinMap R.compare ℕ))) (row : List (FinMap R.compare ℕ))
      → polynomial_of_rows R (rows ++ row ∷ []) ≡ sum R (polynomial_of_rows R rows) (polynomial_of_row R 0 row)
  rows-push [] row = sum-zero R _ ∙ sym (zero-sum R _)
  rows-push (r ∷ rows) row = ap (sum R (polynomial_of_row R 0 r)) (rows-push rows row) ∙ sym (sum-assoc R _ _ _)

  -- a further row adds nothing below its degree
  pub rows-truncated : (K d : ℕ) (rows : List (List (FinMap R.compare ℕ))) (row : List (FinMap R.compare ℕ))
      → AreRows R K rows → length rows ≡ suc d → IsRow R K (suc d) row
      → truncated R R.degree d (polynomial_of_rows R (rows ++ row ∷ [])) ≡ polynomial_of_rows R rows
  rows-truncated K d rows row h n is = ap (truncated R R.degree d) (rows-push rows row) ∙ truncated-sum R R.degree d _ _
      ∙ (λ i. sum R (rows_no_degree_above K d rows h (omega arith) i)
      ((truncated-below R R.degree d _ ∙ ap (below R R.degree (suc d))
      (sym (row_homogeneous (suc d) 0 row is.slices)) ∙ below-homogeneous_part R R.degree (suc d) (suc d) _
      (omega arith)) i)) ∙ sum-zero R _
