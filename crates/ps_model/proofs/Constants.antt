-- Constant terms, and where they are units.
use Rattle.std.proofs.Common.{◌≡◌, ℕ, zero, suc, ◌-◌, ◌*◌, ◌%◌, ◌≤◌, cond, List, [], ◌∷◌, sym, ◌∙◌, ap, subst, arith}
use Rattle.std.proofs.Math.Nat.{mod-eq_of_lt, mul-one}
use Rattle.std.proofs.lemmas.Nat.{mul-mod, mul-mod_first}
use Rattle.ps_model.specs.Ring.{Ring}
use Rattle.ps_model.specs.Truncation.{homogeneous_part}
use Rattle.ps_model.specs.Shift.{linear, shifted}
use Rattle.ps_model.specs.Bounds.{IsUnit}
use Rattle.ps_model.specs.declared.job.Root.{Root}
use Rattle.ps_model.specs.Factors.{root_powers, IsApart}
use Rattle.ps_model.specs.Polynomial.{Polynomial, coefficient, one, monomial, sum, product, power}
use Rattle.ps_model.proofs.Units.{unit_from}
use Rattle.ps_model.proofs.Coefficients.{itself, small}
use Rattle.ps_model.proofs.RingLaws.{zero-sum}
use Rattle.ps_model.proofs.Truncations.{homogeneous_part-sum, homogeneous_part-product}
use Rattle.ps_model.proofs.Below.{homogeneous_part-other}
use Rattle.ps_model.proofs.Homogeneous.{IsHomogeneous, homogeneous-monomial}
use Rattle.ps_model.proofs.Shifts.{shifted-product, shifted-power, shifted-linear, shifted-one}
use Rattle.ps_model.proofs.ShiftDegrees.{homogeneous-linear}
use Rattle.ps_model.proofs.Origin.{coefficient-monomial, constants, constant_is}

module _ (R : Ring) where
  constant : Polynomial R → ℕ
  constant p = coefficient R p R.origin

  -- the constant term is what the constant's monomial says
  read_off : (p : Polynomial R) (a : ℕ) → homogeneous_part R R.y_degree 0 (homogeneous_part R R.degree 0 p)
      ≡ monomial R a R.origin → coefficient R p R.origin ≡ a % R.modulus
  read_off p a e = sym (value (coefficient R p R.origin) ∙ mod-eq_of_lt (small R p R.origin))
      ∙ ap (λ q. coefficient R q R.origin) (sym (constant_is R p) ∙ e) ∙ value a
    where
      value : (a : ℕ) → coefficient R (monomial R a R.origin) R.origin ≡ a % R.modulus
      value a = coefficient-monomial R a R.origin R.origin ∙ ap (λ b. (a * cond b 1 0) % R.modulus)
          (itself R.compare R.total_order R.antisymmetric R.origin) ∙ ap (λ n. n % R.modulus) (mul-one a)

  pub constant-product : (p q : Polynomial R) → coefficient R (product R p q) R.origin
      ≡ (coefficient R p R.origin * coefficient R q R.origin) % R.modulus
  constant-product p q = read_off (product R p q) _
      (ap (homogeneous_part R R.y_degree 0) (homogeneous_part-product R R.degree R.degree_adds 0 p q)
      ∙ homogeneous_part-product R R.y_degree R.y_degree_adds 0 _ _
      ∙ (λ i. product R (constant_is R p i) (constant_is R q i)) ∙ constants R _ _)

  pub constant-one : coefficient R (one R) R.origin ≡ 1
  unfolding one
  constant-one = coefficient-monomial R 1 R.origin R.origin ∙ ap (λ b. (1 * cond b 1 0) % R.modulus)
      (itself R.compare R.total_order R.antisymmetric R.origin) ∙ mod-eq_of_lt (let two = R.at_least_two in omega arith)

  flat : (c : ℕ) → IsHomogeneous R R.y_degree 0 (monomial R c R.origin)
  flat c = ap (λ n. homogeneous_part R R.y_degree n (monomial R c R.origin)) (sym R.y_degree_adds.1)
      ∙ homogeneous-monomial R R.y_degree c R.origin

  pub constant-linear : (c : ℕ) → coefficient R (linear R c) R.origin ≡ c % R.modulus
  constant-linear c = read_off (linear R c) c (ap (homogeneous_part R R.y_degree 0) (homogeneous-linear R c) ∙ parts)
    where
      parts : homogeneous_part R R.y_degree 0 (linear R c) ≡ monomial R c R.origin
      parts = unfold linear in homogeneous_part-sum R R.y_degree 0 _ _
          ∙ (λ i. sum R
          ((ap (homogeneous_part R R.y_degree 0)
          (sym (ap (λ n. homogeneous_part R R.y_degree n (monomial R 1 (R.y 1))) (sym (R.y_degree-y 1))
          ∙ homogeneous-monomial R R.y_degree 1 (R.y 1))) ∙ homogeneous_part-other R R.y_degree 0 1 _ (omega arith))
          i) (flat c i)) ∙ zero-sum R _

  abbrev pub HasUnit : Polynomial R → Type 0
  HasUnit p = IsUnit R.modulus (coefficient R p R.origin)

  regroup : (a b c d : ℕ) → (a * b) * (c * d) ≡ (a * c) * (b * d)
  regroup a b c d = omega arith

  one_one : (m a b : ℕ) → 2 ≤ m → a % m ≡ 1 → b % m ≡ 1 → (a * b) % m ≡ 1
  one_one m a b h p q = rw (mul-mod a b m, p, q) (mod-eq_of_lt (omega arith))

  pub unit-product : (p q : Polynomial R) → HasUnit p → HasUnit q → HasUnit (product R p q)
  unit-product p q hp hq = unit_from R _ (hp.inverse * hq.inverse)
      (ap (λ n. (n * (hp.inverse * hq.inverse)) % R.modulus) (constant-product p q) ∙ mul-mod_first _ _ R.modulus
      ∙ ap (λ n. n % R.modulus) (regroup _ _ hp.inverse hq.inverse)
      ∙ one_one R.modulus _ _ R.at_least_two hp.inverts hq.inverts)

  pub unit-one : HasUnit (one R)
  unit-one = unit_from R _ 1
      (ap (λ n. (n * 1) % R.modulus) constant-one ∙ mod-eq_of_lt (let two = R.at_least_two in omega arith))

  pub unit-power : (p : Polynomial R) (e : ℕ) → HasUnit p → HasUnit (power R p e)
  unit-power p zero h = unit-one
  unit-power p (suc e) h = unit-product p (power R p e) h (unit-power p e h)

  pub unit-linear : (c : ℕ) → IsUnit R.modulus c → HasUnit (linear R c)
  unit-linear c h = unit_from R _ h.inverse
      (ap (λ n. (n * h.inverse) % R.modulus) (constant-linear c) ∙ mul-mod_first c h.inverse R.modulus ∙ h.inverts)

  -- where Y is 0 after the shift by a root, the other roots' powers are units
  pub unit_apart : (r : Root) (ss : List Root) → IsApart R.modulus r ss →
      HasUnit (shifted R r.value (root_powers {R = R} ss))
  unit_apart r [] h = subst HasUnit (sym (shifted-one R r.value)) unit-one
  unit_apart r (s ∷ ss) h = subst HasUnit (sym (shifted-product R r.value _ _))
      (unit-product _ _
      (subst HasUnit
      (sym (shifted-power R r.value _ s.times ∙ ap (λ p. power R p s.times)
      (shifted-linear R r.value (R.modulus - s.value)))) (unit-power _ s.times (unit-linear _ h.0)))
      (unit_apart r ss h.1))
