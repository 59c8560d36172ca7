-- Constant terms of formulas: of numbers, variables, sums, products and quotients.
use Rattle.std.proofs.Common.{◌≡◌, ℕ, zero, suc, ◌+◌, ◌*◌, ◌%◌, ◌<◌, cond, sym, ◌∙◌, ap, arith}
use Rattle.std.proofs.Math.Nat.{mod-eq_of_lt, mul-one}
use Rattle.std.proofs.lemmas.Nat.{mul-mod_first}
use Rattle.ps_model.specs.Keys.{Key, no_powers, y_key}
use Rattle.ps_model.specs.Polynomial.{Polynomial, coefficient, monomial, sum, scaled}
use Rattle.ps_model.specs.Ring.{Ring}
use Rattle.ps_model.specs.SeriesRing.{SeriesRing, ring}
use Rattle.ps_model.specs.Value.{one_power, variable}
use Rattle.ps_model.proofs.Coefficients.{at_key, itself, above_zero, coefficient-linear_form}
use Rattle.ps_model.proofs.Origin.{key_cases, coefficient-monomial}
use Rattle.ps_model.proofs.RingLaws.{mul-mod_last}
use Rattle.ps_model.proofs.Values.{linear_form-sum, linear_form-scaled}

module _ (R : Ring) where
  pub constant-monomial : (c : ℕ) → c < R.modulus → coefficient R (monomial R c R.origin) R.origin ≡ c
  constant-monomial c lt = coefficient-monomial R c R.origin R.origin ∙ ap (λ b. (c * cond b 1 0) % R.modulus)
      (itself R.compare R.total_order R.antisymmetric R.origin) ∙ ap (λ n. n % R.modulus) (mul-one c)
      ∙ mod-eq_of_lt lt

  pub constant-sum : (p q : Polynomial R) → coefficient R (sum R p q) R.origin
      ≡ (coefficient R p R.origin + coefficient R q R.origin) % R.modulus
  constant-sum p q = sym (coefficient-linear_form R _ R.origin) ∙ linear_form-sum R (at_key R R.origin) p q
      ∙ (λ i. (coefficient-linear_form R p R.origin i + coefficient-linear_form R q R.origin i) % R.modulus)

  pub constant-scaled : (c : ℕ) (p : Polynomial R) → coefficient R (scaled R c p) R.origin
      ≡ (c * coefficient R p R.origin) % R.modulus
  constant-scaled c p = sym (coefficient-linear_form R _ R.origin) ∙ linear_form-scaled R (at_key R R.origin) c p
      ∙ (λ i. (c * coefficient-linear_form R p R.origin i) % R.modulus)

power_differs : (n i : ℕ) → i < n → no_powers n ≡ one_power n i → ⊥
power_differs zero i lt e = absurd (omega arith)
power_differs (suc n) zero lt e = let first : ◌≡◌ {A = ℕ} 0 1 = λ j. (e j).0 in absurd (omega arith)
power_differs (suc n) (suc i) lt e = power_differs n i (omega arith) (λ j. (e j).1)

pub constant-variable : (S : SeriesRing) (i : ℕ) → i < S.variables
    → coefficient (ring S) (variable S i) (y_key S.variables 0) ≡ 0
constant-variable S i lt = coefficient-monomial (ring S) 1 _ (y_key S.variables 0)
    ∙ key_cases (ring S) (y_key S.variables 0) (record { powers = one_power S.variables i; y = 0 })
    (λ b. (1 * cond b 1 0) % S.modulus ≡ 0)
    (λ e. absurd (power_differs S.variables i lt (ap (λ (k : Key S.variables). k.powers) e)))
    (λ _. mod-eq_of_lt (above_zero (ring S)))

-- a residue, from its product with a unit
from_product : (m x u e : ℕ) → x < m → (u * e) % m ≡ 1 → x ≡ ((x * u) % m * e) % m
from_product m x u e lt inverts = sym (mod-eq_of_lt lt) ∙ ap (λ n. n % m) (sym (mul-one x))
    ∙ ap (λ n. (x * n) % m) (sym inverts) ∙ mul-mod_last x (u * e) m
    ∙ ap (λ n. n % m) (let regroup : x * (u * e) ≡ (x * u) * e = omega arith in regroup)
    ∙ sym (mul-mod_first (x * u) e m)

-- one residue at most has this product with a unit
pub same_residue : (m x y u e : ℕ) → x < m → y < m → (u * e) % m ≡ 1 → (x * u) % m ≡ (y * u) % m → x ≡ y
same_residue m x y u e below below' inverts same = from_product m x u e below inverts
    ∙ ap (λ n. (n * e) % m) same ∙ sym (from_product m y u e below' inverts)
