-- Rows of slices of two polynomials, put together, are a prepared pair where these are.
use Rattle.std.proofs.Common.{◌≡◌, ℕ, suc, ◌<◌, List, [], length, get_or, sym, ◌∙◌, subst, arith}
use Rattle.std.specs.FinMap.{FinMap}
use Rattle.ps_model.specs.Bounds.{HasNoPowerAbove, HasNoDegreeAbove}
use Rattle.ps_model.specs.Notation.{slice_at}
use Rattle.ps_model.specs.Polynomial.{Polynomial}
use Rattle.ps_model.specs.Prepared.{IsPrepared}
use Rattle.ps_model.specs.Ring.{Ring}
use Rattle.ps_model.specs.Rows.{polynomial_of_rows, AreRows, IsRowOf}
use Rattle.ps_model.proofs.Below.{truncated-below}
use Rattle.ps_model.proofs.Existence.{monic_y_degree}
use Rattle.ps_model.proofs.Rows.{slice_at-rows, rows_no_power_above, rows_no_degree_above}
use Rattle.ps_model.proofs.RowsOf.{row_of_is_row}
use Rattle.ps_model.proofs.Slices.{same_slices}

module _ (R : Ring) where
  -- for each degree below n the rows have the slices of p
  pub record AreRowsFor (K n : ℕ) (p : Polynomial R) (rows : List (List (FinMap R.compare ℕ))) : Type 0 where
    pub count : length rows ≡ n
    pub row : (r : ℕ) → r < n → IsRowOf K r p (get_or rows r [])

  pub rows_for : (K n : ℕ) (p : Polynomial R) (rows : List (List (FinMap R.compare ℕ))) → AreRowsFor K n p rows
      → AreRows R K rows
  rows_for K n p rows are = λ r lt. row_of_is_row R K r p (get_or rows r [])
      (are.row r (subst (λ l. r < l) are.count lt))

  -- the rows put together are the polynomial
  pub together : (K D : ℕ) (p : Polynomial R) (rows : List (List (FinMap R.compare ℕ))) → AreRowsFor K (suc D) p rows
      → HasNoPowerAbove K p → HasNoDegreeAbove D p → polynomial_of_rows R rows ≡ p
  together K D p rows are powers within =
      sym (rows_no_degree_above R K D rows (rows_for K (suc D) p rows are) (let n = are.count in omega arith))
      ∙ same_slices R D K (polynomial_of_rows R rows) p (rows_no_power_above R K rows (rows_for K
      (suc D) p rows are)) powers
      (λ r j le lj. slice_at-rows R K r j rows (rows_for K (suc D) p rows are) ∙ (are.row r (omega arith)).slices j lj)
      ∙ within

  -- so they are the prepared pair
  pub pair_of_rows : (G : Polynomial R) (k q D : ℕ) (p u : Polynomial R) (rows_p rows_u : List (List
      (FinMap R.compare ℕ)))
      → IsPrepared G k q D p u → AreRowsFor k (suc D) p rows_p → AreRowsFor q (suc D) u rows_u
      → IsPrepared G k q D (polynomial_of_rows R rows_p) (polynomial_of_rows R rows_u)
  pair_of_rows G k q D p u rows_p rows_u is are_p are_u =
      subst (λ t. IsPrepared G k q D t (polynomial_of_rows R rows_u))
      (sym (together k D p rows_p are_p (truncated-below R R.y_degree k p ∙ monic_y_degree R k p is.monic) is.p_within))
      (subst (λ t. IsPrepared G k q D p t)
      (sym (together q D u rows_u are_u is.u_no_power_above is.u_within)) is)

  -- and the rows of a polynomial that they are put together have its slices
  pub row_together : (K r : ℕ) (p : Polynomial R) (rows : List (List (FinMap R.compare ℕ))) → AreRows R K rows
      → polynomial_of_rows R rows ≡ p → r < length rows → IsRowOf K r p (get_or rows r [])
  row_together K r p rows are same lt = record {
    places = (are r lt).places;
    slices = λ j le. sym (slice_at-rows R K r j rows are) ∙ λ i. slice_at r j (same i);
  }
