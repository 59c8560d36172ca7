-- Y + c in place of Y.
--     linear R c      Y + c
--     shifted_key R c x      the key x without its Y^j, times (Y + c)^j
--     shifted R c p      the sum over the entries of p of coefficient times shifted key
--     binomial n k      how many ways there are to choose k of n; 0 where k is above n
--     numbers_to n f      f 0 + f 1 + .. + f n
use Rattle.std.specs.Prelude.{ℕ, zero, suc, ◌+◌}
use Rattle.ps_model.specs.Ring.{Ring}
use Rattle.ps_model.specs.Polynomial.{Polynomial, monomial, sum, product, power, image}

module _ (R : Ring) where
  unfoldable pub linear : ℕ → Polynomial R
  linear c = sum R (monomial R 1 (R.y 1)) (monomial R c R.origin)

  unfoldable pub shifted_key : ℕ → R.Key → Polynomial R
  shifted_key c x = product R (monomial R 1 (R.rest x)) (power R (linear c) (R.y_degree x))

  unfoldable pub shifted : ℕ → Polynomial R → Polynomial R
  shifted c p = image R (shifted_key c) p

abbrev pub binomial : ℕ → ℕ → ℕ
binomial n zero = 1
binomial zero (suc k) = 0
binomial (suc n) (suc k) = binomial n k + binomial n (suc k)

abbrev pub numbers_to : ℕ → (ℕ → ℕ) → ℕ
numbers_to zero f = f 0
numbers_to (suc n) f = numbers_to n f + f (suc n)
