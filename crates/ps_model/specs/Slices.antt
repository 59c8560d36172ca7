-- Slices: of each degree r and each power j of Y the part of a polynomial there, without Y^j.
--     without_y R p      each entry of p without its power of Y
--     y_coefficient R j p      the coefficient of Y^j, a polynomial without Y
--     slice_at R r j p      the homogeneous part of degree r of the coefficient of Y^j
--     raised R j p      Y^j * p
use Rattle.std.specs.Prelude.{ℕ}
use Rattle.ps_model.specs.Ring.{Ring}
use Rattle.ps_model.specs.Polynomial.{Polynomial, monomial, product, image}
use Rattle.ps_model.specs.Truncation.{homogeneous_part}

module _ (R : Ring) where
  unfoldable pub without_y : Polynomial R → Polynomial R
  without_y p = image R (λ x. monomial R 1 (R.rest x)) p

  unfoldable pub y_coefficient : ℕ → Polynomial R → Polynomial R
  y_coefficient j p = without_y (homogeneous_part R R.y_degree j p)

  unfoldable pub slice_at : ℕ → ℕ → Polynomial R → Polynomial R
  slice_at r j p = without_y (homogeneous_part R R.y_degree j (homogeneous_part R R.degree r p))

  abbrev pub raised : ℕ → Polynomial R → Polynomial R
  raised j p = product R (monomial R 1 (R.y j)) p
