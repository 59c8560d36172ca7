-- The constant term of a tree's value is its value at the origin.
use Rattle.std.proofs.Common.{◌≡◌, ℕ, zero, suc, ◌+◌, ◌-◌, ◌*◌, ◌%◌, ◌^◌, ◌<◌, ◌≤◌, Bool, true, false, cond}
use Rattle.std.proofs.Common.{refl, sym, ◌∙◌, ap, subst, arith}
use Rattle.std.specs.Prelude.{if◌then◌else◌}
use Rattle.std.specs.List.{All}
use Rattle.std.proofs.Math.Nat.{mod-eq_of_lt, mod-lt, mul-one, one-mul, mul-zero, pow-zero, pow-succ'}
use Rattle.std.proofs.Math.Nat.{mod-add-mod, add-mod-mod, mul-add-mod_self_left}
use Rattle.std.proofs.lemmas.Nat.{mul-mod_first}
use Rattle.ps_model.specs.declared.expr.Expr.{Expr, Number, Name, MainVariable, Sum', Product', Power'}
use Rattle.ps_model.specs.declared.expr.Expr.{end_of-Expr, more_of-Expr}
use Rattle.ps_model.specs.declared.expr.Expr.{Row_of-Summand, end_of-Summand, more_of-Summand}
use Rattle.ps_model.specs.declared.expr.Expr.{Row_of-Factor, end_of-Factor, more_of-Factor}
use Rattle.ps_model.specs.Ring.{Ring}
use Rattle.ps_model.specs.Keys.{no_powers, y_key}
use Rattle.ps_model.specs.Polynomial.{coefficient, monomial, negative, product, power}
use Rattle.ps_model.specs.Bounds.{IsUnit}
use Rattle.ps_model.specs.SeriesRing.{SeriesRing, ring, Poly}
use Rattle.ps_model.specs.Tree.{has_y, divisors, IsValidTree, AreValidSummands, AreValidFactors, AreFactors}
use Rattle.ps_model.specs.Value.{one_power, variable_key, variable, IsValue, IsSumValue, IsProductValue, IsLaterValue}
use Rattle.ps_model.specs.Divisions.{DividesByUnits}
use Rattle.ps_model.proofs.Coefficients.{itself, small, above_zero}
use Rattle.ps_model.proofs.RingLaws.{mul-mod_last}
use Rattle.ps_model.proofs.Origin.{key_cases, coefficient-monomial, coefficient-zero, coefficient-truncated_constant}
use Rattle.ps_model.proofs.SlicesShifted.{coefficient-sum, coefficient-scaled}
use Rattle.ps_model.proofs.Constants.{constant-product, constant-one}
use Rattle.ps_model.proofs.Divisors.{valid_divisor}
use Rattle.ps_model.proofs.TreeValues.{value_flat, variable_flat}
use Rattle.ps_model.proofs.TreeLeads.{first_kept}
use Rattle.ps_model.proofs.TreeDivisions.{tree_value}
use Rattle.intake.specs.Origin.{HasOrigin, HasSumOrigin, HasProductOrigin}
use Rattle.intake.proofs.Origins.{origin_once, divides_by_units}
use Rattle.intake.proofs.Passing.{none_at}

-- m - c and (m - 1) * c are the same modulo m
less_one : (m c : ℕ) → 2 ≤ m → c ≤ m → ((m - 1) * c) % m ≡ (m - c) % m
less_one m c two le = sym (mul-add-mod_self_left m 1 ((m - 1) * c))
    ∙ ap (λ n. n % m) (regroup (m - 1) m (omega arith) le) ∙ mul-add-mod_self_left m c (m - c)
  where
    regroup : (n m : ℕ) → m ≡ n + 1 → c ≤ m → m * 1 + n * c ≡ m * c + (m - c)
    regroup n m is le = (λ i. is i * 1 + n * c) ∙ expanded n (omega arith) ∙ (λ i. sym is i * c + (sym is i - c))
      where
        expanded : (n : ℕ) → c ≤ n + 1 → (n + 1) * 1 + n * c ≡ (n + 1) * c + (n + 1 - c)
        expanded n le = omega arith

-- a power of a variable of the ring isn't the key of 1
one_power-some : (n i : ℕ) → i < n → no_powers n ≡ one_power n i → ⊥
one_power-some zero i lt e = absurd (omega arith)
one_power-some (suc n) zero lt e = apart (ap (λ p. p.0) e)
  where
    apart : ◌≡◌ {A = ℕ} 0 1 → ⊥
    apart e = omega arith
one_power-some (suc n) (suc i) lt e = one_power-some n i (omega arith) (ap (λ p. p.1) e)

module _ (S : SeriesRing) where
  abbrev R : Ring
  R = ring S

  abbrev m : ℕ
  m = S.modulus

  abbrev constant : Poly S → ℕ
  constant p = coefficient R p R.origin

  nothing_more : (n : ℕ) → 0 + n ≡ n
  nothing_more n = omega arith

  constant_small : (p : Poly S) → constant p % m ≡ constant p
  constant_small p = mod-eq_of_lt (small R p R.origin)

  constant-origin : (c : ℕ) → constant (monomial R c R.origin) ≡ c % m
  constant-origin c = coefficient-monomial R c R.origin R.origin ∙ ap (λ b. (c * cond b 1 0) % m)
      (itself R.compare R.total_order R.antisymmetric R.origin) ∙ ap (λ n. n % m) (mul-one c)

  constant-elsewhere : (c : ℕ) (x : R.Key) → (R.origin ≡ x → ⊥) → constant (monomial R c x) ≡ 0
  constant-elsewhere c x apart = coefficient-monomial R c x R.origin
      ∙ key_cases R R.origin x (λ b. (c * cond b 1 0) % m ≡ 0) (λ e. absurd (apart e))
      (λ other. ap (λ n. n % m) (mul-zero c) ∙ mod-eq_of_lt (above_zero R))

  constant-negative : (v : Poly S) → constant (negative R v) ≡ (m - constant v) % m
  unfolding negative
  constant-negative v = coefficient-scaled R (m - 1) v R.origin
      ∙ less_one m (constant v) S.at_least_two (let lt = small R v R.origin in omega arith)

  constant-signed : (minus : Bool) (v : Poly S) → constant (cond minus (negative R v) v)
      ≡ (if minus then m - constant v else constant v) % m
  constant-signed true v = constant-negative v
  constant-signed false v = sym (constant_small v)

  constant-power : (v : Poly S) (e : ℕ) → constant (power R v e) ≡ (constant v ^ e) % m
  constant-power v zero = constant-one R ∙ sym (ap (λ n. n % m) (pow-zero (constant v))
      ∙ mod-eq_of_lt (let two = S.at_least_two in omega arith))
  constant-power v (suc e) = constant-product R v (power R v e)
      ∙ ap (λ n. (constant v * n) % m) (constant-power v e) ∙ mul-mod_last (constant v) (constant v ^ e) m
      ∙ ap (λ n. n % m) (sym (pow-succ' (constant v) e))

  regroup_sum : (s x o : ℕ) → ((s + x) % m + o) % m ≡ (s + (x % m + o) % m) % m
  regroup_sum s x o = mod-add-mod (s + x) m o ∙ ap (λ n. n % m) (turned s x o) ∙ sym (mod-add-mod x m (o + s))
      ∙ ap (λ n. n % m) (back (x % m) o s) ∙ sym (add-mod-mod s (x % m + o) m)
    where
      turned : (s x o : ℕ) → s + x + o ≡ x + (o + s)
      turned s x o = omega arith

      back : (x o s : ℕ) → x + (o + s) ≡ s + (x + o)
      back x o s = omega arith

  -- what a quotient's constant term is
  quotient_constant : (a b q inverse : ℕ) → q < m → (q * b) % m ≡ a → (b * inverse) % m ≡ 1 → q ≡ (a * inverse) % m
  quotient_constant a b q inverse lt e one = sym (mod-eq_of_lt lt) ∙ ap (λ n. n % m) (sym (mul-one q))
      ∙ ap (λ n. (q * n) % m) (sym one) ∙ mul-mod_last q (b * inverse) m ∙ ap (λ n. n % m) (grouped q b inverse)
      ∙ sym (mul-mod_first (q * b) inverse m) ∙ ap (λ n. (n * inverse) % m) e
    where
      grouped : (q b i : ℕ) → q * (b * i) ≡ q * b * i
      grouped q b i = omega arith

  module _ (names : ℕ) (few : names ≤ S.variables) where
    mutual
      -- the constant term of a value is the value at the origin
      pub value_origin : (e : Expr) (p : Poly S) → IsValidTree names e → IsValue S 0 e p → HasOrigin m e (constant p)
      value_origin (Number c) p h is = ap constant is ∙ coefficient-truncated_constant R 0 _ ∙ constant-origin c
      value_origin (Name i) p h is = ap constant is ∙ coefficient-truncated_constant R 0 _
          ∙ constant-elsewhere 1 (variable_key S.variables i)
          (λ e. one_power-some S.variables i (omega arith) (ap (λ k. k.powers) e))
      value_origin MainVariable p h is = ap constant is ∙ coefficient-truncated_constant R 0 _
          ∙ constant-elsewhere 1 (y_key S.variables 1) (λ e. apart (ap (λ k. k.y) e))
        where
          apart : ◌≡◌ {A = ℕ} 0 1 → ⊥
          apart e = omega arith
      value_origin (Sum' shape summands) p h is = subst (HasSumOrigin m 0 summands)
          (ap (λ n. n % m) (nothing_more (constant p)) ∙ constant_small p)
          (sum_origin summands 0 p (above_zero R) h.1 is)
      value_origin (Product' shape factors) p h is = product_origin factors p h.0 h.1 is
      value_origin (Power' shape (more_of-Expr base end_of-Expr) exponent) p h (v, is, at) = (
        constant v,
        value_origin base v h.0 is,
        ap constant at ∙ coefficient-truncated_constant R 0 _ ∙ constant-power v exponent,
      )

      sum_origin : {k : _} (row : Row_of-Summand k) (s : ℕ) (p : Poly S) → s < m → AreValidSummands names row
          → IsSumValue S 0 row p → HasSumOrigin m s row ((s + constant p) % m)
      sum_origin end_of-Summand s p lt h is = ap (λ q. (s + constant q) % m) is
          ∙ ap (λ n. (s + n) % m) (coefficient-zero R R.origin) ∙ ap (λ n. n % m) (nothing s) ∙ mod-eq_of_lt lt
        where
          nothing : (n : ℕ) → n + 0 ≡ n
          nothing n = omega arith
      sum_origin (more_of-Summand minus of rest) s p lt h (v, others, is, are, at) =
          let x : ℕ = if minus then m - constant v else constant v in (
            constant v,
            value_origin of v h.0 is,
            subst (HasSumOrigin m ((s + x) % m) rest)
                (regroup_sum s x (constant others) ∙ ap (λ n. (s + n) % m)
                (ap (λ n. (n + constant others) % m) (sym (constant-signed minus v))
                ∙ sym (ap constant at ∙ coefficient-sum R _ others R.origin)))
                (sum_origin rest ((s + x) % m) others (mod-lt (s + x) (above_zero R)) h.1 are),
          )

      product_origin : {k : _} (row : Row_of-Factor k) (p : Poly S) → AreFactors row → AreValidFactors names row
          → IsProductValue S 0 row p → HasProductOrigin m 1 row (constant p)
      product_origin end_of-Factor p ok h is = absurd is
      product_origin (more_of-Factor true of rest) p ok h is = absurd (first_kept of rest ok)
      product_origin (more_of-Factor false of rest) p ok h (v, is, later) = (
        constant v,
        constant v,
        value_origin of v h.0 is,
        refl,
        subst (λ n. HasProductOrigin m n rest (constant p))
            (sym (ap (λ n. n % m) (one-mul (constant v)) ∙ constant_small v)) (later_origin rest v p h.1 later),
      )

      later_origin : {k : _} (row : Row_of-Factor k) (first p : Poly S) → AreValidFactors names row
          → IsLaterValue S 0 first row p → HasProductOrigin m (constant first) row (constant p)
      later_origin end_of-Factor first p h is = ap constant is
      later_origin (more_of-Factor true of rest) first p h (v, next, is, step, later) = (
        constant v,
        step.1.inverse,
        value_origin of v h.0 is,
        (step.1.is_residue, step.1.inverts),
        subst (λ n. HasProductOrigin m n rest (constant p))
            (quotient_constant (constant first) (constant v) (constant next) step.1.inverse (small R next R.origin)
            (sym (constant-product R next v) ∙ sym (coefficient-truncated_constant R 0 (product R next v))
            ∙ ap constant step.2.multiplies_back) step.1.inverts) (later_origin rest next p h.1 later),
      )
      later_origin (more_of-Factor false of rest) first p h (v, next, is, step, later) = (
        constant v,
        constant v,
        value_origin of v h.0 is,
        refl,
        subst (λ n. HasProductOrigin m n rest (constant p))
            (ap constant step ∙ coefficient-truncated_constant R 0 _ ∙ constant-product R first v)
            (later_origin rest next p h.1 later),
      )

    module _ (e : Expr) (valid : IsValidTree names e) (flat : All (λ d. has_y d ≡ false) (divisors e)) where
      divides : (n : ℕ) → HasOrigin m e n → DividesByUnits S (variable S) e
      divides n h = record {
        without_y = λ k d divisor. none_at (λ d. has_y d ≡ false) (divisors e) (k - 1) d flat divisor.1;
        no_power = λ k D d v divisor is. value_flat S (variable S) (variable_flat S) D d v
            (none_at (λ d. has_y d ≡ false) (divisors e) (k - 1) d flat divisor.1) is;
        units = λ k d v divisor is.
            (let unit = none_at (λ d. (a : ℕ) × HasOrigin m d a × IsUnit m a) (divisors e) (k - 1) d
            (divides_by_units m e n h) divisor.1 in
            subst (IsUnit m) (origin_once m d unit.0 (constant v) unit.1
            (value_origin d v (valid_divisor names e d k valid divisor) is)) unit.2);
      }

      -- and where there is a value at the origin, it is the constant term of a value
      pub origin_value : (n : ℕ) → HasOrigin m e n → (v : Poly S) × IsValue S 0 e v × (n ≡ constant v)
      origin_value n h =
          let one = tree_value S (variable S) names 0 e valid (divides n h) in (
            one.one_value,
            one.meets,
            origin_once m e n (constant one.one_value) h
                (value_origin e one.one_value valid one.meets),
          )
