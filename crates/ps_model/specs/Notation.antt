-- The words of the definitions and laws. A word finds the ring R in its polynomials' type, or is
-- told it, as zero {R = ring S}. Polynomial, Truncation, Shift and Slices define what they name.
--     zero, one, monomial c k      0, 1, and c times the key k
--     of_map m      the polynomial of a finite map
--     sum p q, difference p q, negative p, scaled c p, product p q, power p e      as in algebra
--     sum_to r f      f 0 + f 1 + .. + f r
--     sum_between a b f      f a + .. + f (b - 1), and 0 where b is at most a
--     terms p      the entries of p, in order
--     coefficient p k      the coefficient of p at the key k, 0 where k is absent
--     constant_term p      the coefficient at the origin, the key of 1
--     truncated D p      the entries of degree at most D
--     truncated_in_y K p      the entries with no power of Y above K
--     homogeneous_part r p      the entries of degree r
--     y_powers_from k p      the entries with Y^k and above
--     y_coefficient j p      the coefficient of Y^j
--     slice_at r j p      the homogeneous part of degree r of the coefficient of Y^j
--     raised j p      Y^j * p
--     linear c      Y + c
--     shifted c p      p with Y + c in place of Y
use Rattle.std.specs.Prelude.{ℕ, nat_le, List}
use Rattle.std.specs.FinMap.{FinMap}
use Rattle.ps_model.specs.Ring.{Ring}
use Rattle.ps_model.specs.Polynomial.{Polynomial}
use Rattle.ps_model.specs.Polynomial as over
use Rattle.ps_model.specs.Truncation as by_degree
use Rattle.ps_model.specs.Shift as shift
use Rattle.ps_model.specs.Slices as slices

module _ {R : Ring} where
  abbrev pub zero : Polynomial R
  zero = over.zero R

  abbrev pub one : Polynomial R
  one = over.one R

  abbrev pub monomial : ℕ → R.Key → Polynomial R
  monomial c k = over.monomial R c k

  abbrev pub of_map : FinMap R.compare ℕ → Polynomial R
  of_map m = over.of_map R m

  abbrev pub sum : Polynomial R → Polynomial R → Polynomial R
  sum p q = over.sum R p q

  abbrev pub difference : Polynomial R → Polynomial R → Polynomial R
  difference p q = over.difference R p q

  abbrev pub negative : Polynomial R → Polynomial R
  negative p = over.negative R p

  abbrev pub scaled : ℕ → Polynomial R → Polynomial R
  scaled c p = over.scaled R c p

  abbrev pub product : Polynomial R → Polynomial R → Polynomial R
  product p q = over.product R p q

  abbrev pub power : Polynomial R → ℕ → Polynomial R
  power p e = over.power R p e

  abbrev pub sum_to : ℕ → (ℕ → Polynomial R) → Polynomial R
  sum_to r f = over.sum_to R r f

  abbrev pub sum_between : ℕ → ℕ → (ℕ → Polynomial R) → Polynomial R
  sum_between a b f = over.sum_between R a b f

  abbrev pub terms : Polynomial R → List (R.Key × ℕ)
  terms p = over.terms R p

  abbrev pub coefficient : Polynomial R → R.Key → ℕ
  coefficient p k = over.coefficient R p k

  abbrev pub constant_term : Polynomial R → ℕ
  constant_term p = over.coefficient R p R.origin

  abbrev pub truncated : ℕ → Polynomial R → Polynomial R
  truncated D p = by_degree.truncated R R.degree D p

  abbrev pub truncated_in_y : ℕ → Polynomial R → Polynomial R
  truncated_in_y K p = by_degree.truncated R R.y_degree K p

  abbrev pub homogeneous_part : ℕ → Polynomial R → Polynomial R
  homogeneous_part r p = by_degree.homogeneous_part R R.degree r p

  abbrev pub y_powers_from : ℕ → Polynomial R → Polynomial R
  y_powers_from k p = over.kept_terms R (λ x. nat_le k (R.y_degree x)) p

  abbrev pub y_coefficient : ℕ → Polynomial R → Polynomial R
  y_coefficient j p = slices.y_coefficient R j p

  abbrev pub slice_at : ℕ → ℕ → Polynomial R → Polynomial R
  slice_at r j p = slices.slice_at R r j p

  abbrev pub raised : ℕ → Polynomial R → Polynomial R
  raised j p = slices.raised R j p

  abbrev pub linear : ℕ → Polynomial R
  linear c = shift.linear R c

  abbrev pub shifted : ℕ → Polynomial R → Polynomial R
  shifted c p = shift.shifted R c p
