-- Rows of a polynomial, and of its shift.
use Rattle.std.proofs.Common.{◌≡◌, ℕ, suc, ◌+◌, ◌-◌, ◌*◌, ◌^◌, ◌≤◌, List, get_or, sym, ◌∙◌, ap, subst, arith}
use Rattle.std.proofs.lemmas.List.{get_or_default}
use Rattle.std.specs.FinMap.{FinMap, empty}
use Rattle.ps_model.specs.Ring.{Ring}
use Rattle.ps_model.specs.Polynomial.{Polynomial, of_map, scaled, sum_between}
use Rattle.ps_model.specs.Truncation.{homogeneous_part}
use Rattle.ps_model.specs.Shift.{shifted, binomial}
use Rattle.ps_model.specs.Bounds.{HasNoPowerAbove}
use Rattle.ps_model.specs.Bounds.{IsSlice}
use Rattle.ps_model.specs.Slices.{slice_at}
use Rattle.ps_model.specs.Rows.{polynomial_of_row, IsRow, IsRowOf}
use Rattle.ps_model.proofs.SumsBetween.{sum_between-same}
use Rattle.ps_model.proofs.Below.{truncated-below, homogeneous_part-homogeneous_part}
use Rattle.ps_model.proofs.ShiftDegrees.{homogeneous_part-shifted}
use Rattle.ps_model.proofs.Division.{down}
use Rattle.ps_model.proofs.Monic.{shifted-y_degree}
use Rattle.ps_model.proofs.Slices.{slice_at-down, same_part}
use Rattle.ps_model.proofs.SliceValues.{slice_at-IsSlice}
use Rattle.ps_model.proofs.SlicesShifted.{slice_at-shifted}
use Rattle.ps_model.proofs.Rows.{row_slice, row_homogeneous, row_powers}

module _ (R : Ring) where
  pub row_of_is_row : (K r : ℕ) (p : Polynomial R) (row : List (FinMap R.compare ℕ)) → IsRowOf K r p row
      → IsRow R K r row
  row_of_is_row K r p row is = record {
    places = is.places;
    slices = λ i d lt. subst (λ m. IsSlice r (of_map R m)) (get_or_default row i empty d lt)
        (subst (IsSlice r) (sym (is.slices i (let n = is.places in omega arith))) (slice_at-IsSlice R r i p));
  }

  at_start : (K r j : ℕ) (row : List (FinMap R.compare ℕ)) → IsRow R K r row
      → slice_at R r j (polynomial_of_row R 0 row) ≡ of_map R (get_or row j empty)
  at_start K r j row is = ap (λ n. slice_at R r n (polynomial_of_row R 0 row)) start ∙ row_slice R r 0 j row is.slices
    where
      start : j ≡ 0 + j
      start = omega arith

  row_no_power_above : (K r : ℕ) (row : List (FinMap R.compare ℕ)) → IsRow R K r row
      → HasNoPowerAbove K (polynomial_of_row R 0 row)
  row_no_power_above K r row is = truncated-below R R.y_degree K _ ∙ row_powers R r 0 (suc K) row is.slices
      (let n = is.places in omega arith)

  -- the polynomial of a row of p is the homogeneous part of p
  pub row_polynomial : (K r : ℕ) (p : Polynomial R) (row : List (FinMap R.compare ℕ)) → HasNoPowerAbove K p
      → IsRowOf K r p row → polynomial_of_row R 0 row ≡ homogeneous_part R R.degree r p
  row_polynomial K r p row hp is =
      let own = row_of_is_row K r p row is in
      sym (row_homogeneous R r 0 row own.slices) ∙ same_part R r K (polynomial_of_row R 0 row) p
      (row_no_power_above K r row own) hp (λ j le. at_start K r j row own ∙ is.slices j le)

  pub row_from : (K r : ℕ) (p : Polynomial R) (row : List (FinMap R.compare ℕ)) → IsRow R K r row
      → polynomial_of_row R 0 row ≡ homogeneous_part R R.degree r p → IsRowOf K r p row
  row_from K r p row own same = record {
    places = own.places;
    slices = λ j le. sym (at_start K r j row own) ∙ ap (slice_at R r j) same ∙ slice_at-down R r j _
        ∙ ap (λ t. down R j (homogeneous_part R R.y_degree j t)) (homogeneous_part-homogeneous_part R R.degree r p)
        ∙ sym (slice_at-down R r j p);
  }

  -- a row computed by binomials is the shifted row
  pub shifted_row : (c K r : ℕ) (row out : List (FinMap R.compare ℕ)) → IsRow R K r row → IsRow R K r out
      → ((i : ℕ) → i ≤ K → of_map R (get_or out i empty) ≡ sum_between R i (suc K)
      (λ j. scaled R (binomial j i * c ^ (j - i)) (of_map R (get_or row j empty))))
      → polynomial_of_row R 0 out ≡ shifted R c (polynomial_of_row R 0 row)
  shifted_row c K r row out own new formula = sym (row_homogeneous R r 0 out new.slices)
      ∙ same_part R r K (polynomial_of_row R 0 out) (shifted R c (polynomial_of_row R 0 row))
      (row_no_power_above K r out new) powers
      (λ i le. at_start K r i out new ∙ formula i le
      ∙ sym (slice_at-shifted R c K r i (polynomial_of_row R 0 row) (row_no_power_above K r row own)
      ∙ sum_between-same R i (suc K) _ _ (λ j _ _. ap (scaled R (binomial j i * c ^ (j - i)))
      (at_start K r j row own))))
      ∙ homogeneous_part-shifted R r c _ ∙ ap (shifted R c) (row_homogeneous R r 0 row own.slices)
    where
      powers : HasNoPowerAbove K (shifted R c (polynomial_of_row R 0 row))
      powers = truncated-below R R.y_degree K _ ∙ shifted-y_degree R c (suc K) _
          (row_powers R r 0 (suc K) row own.slices (let n = own.places in omega arith))

  -- a shifted row is a row of the shifted polynomial
  pub shifted_row_of : (c K r : ℕ) (p : Polynomial R) (row out : List (FinMap R.compare ℕ)) → HasNoPowerAbove K p
      → IsRowOf K r p row → IsRow R K r out
      → polynomial_of_row R 0 out ≡ shifted R c (polynomial_of_row R 0 row) → IsRowOf K r (shifted R c p) out
  shifted_row_of c K r p row out hp is new same = row_from K r (shifted R c p) out new
      (same ∙ ap (shifted R c) (row_polynomial K r p row hp is) ∙ sym (homogeneous_part-shifted R r c p))
