-- The shift by 0 changes nothing.
use Rattle.std.proofs.Common.{◌≡◌, ℕ, List, sym, ◌∙◌, ap, subst}
use Rattle.std.proofs.Math.Nat.{mod-eq_of_lt}
use Rattle.ps_model.specs.Polynomial.{Polynomial, monomial, product, power, image}
use Rattle.ps_model.specs.Ring.{Ring as AnyRing}
use Rattle.ps_model.specs.Rows.{polynomial_of_row}
use Rattle.ps_model.specs.SeriesRing.{ring as ring_of}
use Rattle.ps_model.specs.Shift.{shifted, shifted_key}
use Rattle.ps_model.proofs.Coefficients.{above_zero}
use Rattle.ps_model.proofs.Images.{image-monomials, monomial-plus}
use Rattle.ps_model.proofs.Shifts.{linear-zero, power-y}
use Rattle.parts.specs.declared.rings.Ring.{Ring}
use Rattle.parts.specs.PartValue.{PartValue}
use Rattle.parts.specs.RowsOfParts.{IsRowOfParts}
use Rattle.parts.specs.Series.{series, row_maps}
use Rattle.parts.proofs.RowSlices.{row_is}
use Rattle.taylor.specs.Shifts.{IsShiftedRow}

module _ (R : AnyRing) where
  -- a key is its power of Y times the rest
  shifted_key-zero : (x : R.Key) → shifted_key R 0 x ≡ monomial R 1 x
  unfolding shifted_key
  shifted_key-zero x = ap (λ p. product R (monomial R 1 (R.rest x)) (power R p (R.y_degree x)))
      (linear-zero R 0 (mod-eq_of_lt (above_zero R)))
      ∙ ap (product R (monomial R 1 (R.rest x))) (power-y R (R.y_degree x)) ∙ sym (monomial-plus R _ _)
      ∙ ap (monomial R 1) (R.rest-y x)

  -- Y + 0 in place of Y
  pub shifted-zero : (p : Polynomial R) → shifted R 0 p ≡ p
  unfolding shifted
  shifted-zero p = (λ i. image R (λ x. shifted_key-zero x i) p) ∙ image-monomials R p

-- the same parts are the row that is shifted by 0
pub same_row : (ring : Ring) (c K r : ℕ) (row out : List PartValue) → c ≡ 0 → out ≡ row → IsRowOfParts ring K r row
    → IsShiftedRow ring c K r row out
same_row ring c K r row out none same is = record {
  row_is = row_is ring K r row is;
  out_is = row_is ring K r out (subst (IsRowOfParts ring K r) (sym same) is);
  polynomial = ap (λ ps. polynomial_of_row (ring_of (series ring)) 0 (row_maps ring ps)) same
      ∙ sym (shifted-zero (ring_of (series ring)) _)
      ∙ ap (λ b. shifted (ring_of (series ring)) b (polynomial_of_row (ring_of (series ring)) 0 (row_maps ring row)))
      (sym none);
}
