-- Bounds of a polynomial's degrees, monic polynomials, units, and the word exactly one.
--     HasNoPowerAbove K p      p has no power of Y above K
--     HasNoDegreeAbove D p      p has no entry of degree above D
--     IsSlice r p      p has degree r and no Y: it is its own slice at r and 0
--     IsMonic k p      what p has at Y^k and above is Y^k alone, with coefficient 1
--     IsUnit m x      some residue times x is 1 modulo m
--     ExactlyOne P      one value meets P, and no other does
use Rattle.std.specs.Prelude.{◌≡◌, ℕ, ◌*◌, ◌%◌, ◌<◌}
use Rattle.ps_model.specs.Ring.{Ring}
use Rattle.ps_model.specs.Polynomial.{Polynomial}
use Rattle.ps_model.specs.Notation.{truncated, truncated_in_y, y_powers_from, slice_at, monomial}

module _ {R : Ring} where
  abbrev pub HasNoPowerAbove : ℕ → Polynomial R → Type 0
  HasNoPowerAbove K p = truncated_in_y K p ≡ p

  abbrev pub HasNoDegreeAbove : ℕ → Polynomial R → Type 0
  HasNoDegreeAbove D p = truncated D p ≡ p

  abbrev pub IsSlice : ℕ → Polynomial R → Type 0
  IsSlice r p = slice_at r 0 p ≡ p

  abbrev pub IsMonic : ℕ → Polynomial R → Type 0
  IsMonic k p = y_powers_from k p ≡ monomial 1 (R.y k)

pub record IsUnit (m x : ℕ) : Type 0 where
  pub inverse : ℕ
  pub is_residue : inverse < m
  pub inverts : (x * inverse) % m ≡ 1

pub record ExactlyOne {A : Type 0} (P : A → Type 0) : Type 0 where
  pub one_value : A
  pub meets : P one_value
  pub only : (x : A) → P x → x ≡ one_value
