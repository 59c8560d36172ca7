-- What a pass over the divisions finds: the first one by Y, and the first one that fails.
use Rattle.std.proofs.Common.{◌≡◌, ℕ, ◌+◌, ◌-◌, ◌<◌, ◌≤◌, true, false, List, length}
use Rattle.std.proofs.Common.{refl, sym, ◌∙◌, ap, subst, arith}
use Rattle.std.specs.Prelude.{slice_get}
use Rattle.ps_model.specs.declared.expr.Expr.{Expr}
use Rattle.ps_model.specs.Bounds.{IsUnit}
use Rattle.ps_model.specs.SeriesRing.{SeriesRing, Poly}
use Rattle.ps_model.specs.Notation.{constant_term}
use Rattle.ps_model.specs.Value.{IsValue}
use Rattle.ps_model.specs.Tree.{has_y, divisors, IsValidTree}
use Rattle.ps_model.specs.Divisions.{IsDivisor, IsByY, Fails}
use Rattle.ps_model.specs.Input.{IsLeast, told_count}
use Rattle.ps_model.specs.Job.{series_ring}
use Rattle.ps_model.proofs.Divisors.{valid_divisor}
use Rattle.intake.specs.Origin.{HasEightNames, HasOrigin, IsByUnit, IsByNoUnit}
use Rattle.intake.specs.Passes.{ArePassed, IsStopped}
use Rattle.intake.proofs.Passing.{none_at, at_stop, before_stop}
use Rattle.intake.proofs.FlatDivisors.{not_true, flat_divisors}
use Rattle.intake.proofs.OriginValues.{value_origin, origin_value}
use Rattle.intake.proofs.RootProducts.{modulus_is}

pub series_ring-variables : (m : ℕ) (ws : List ℕ) → (series_ring m ws).variables ≡ 8
unfolding series_ring
series_ring-variables m ws = refl

-- the place of the bad divisor
module _ (Good Bad : Expr → Type 0) (e : Expr) (place : ℕ) (h : IsStopped Good Bad (divisors e) 0 place) where
  stop_divisor : IsDivisor e (length h.before + 1) h.one
  stop_divisor = (
    omega arith,
    ap (slice_get (divisors e)) (back (length h.before))
        ∙ ap (λ ds. slice_get ds (length h.before)) h.split ∙ at_stop h.before h.after h.one,
  )
    where
      back : (n : ℕ) → n + 1 - 1 ≡ n
      back n = omega arith

  stop_least : (k : ℕ) (d : Expr) → IsDivisor e k d → (Good d → ⊥) → length h.before + 1 ≤ k
  stop_least k d divisor bad = at_least k (length h.before) divisor.0 (λ lt. bad
      (none_at Good h.before (k - 1) d h.good (sym (before_stop h.before h.after h.one (k - 1) lt)
      ∙ ap (λ ds. slice_get ds (k - 1)) (sym h.split) ∙ divisor.1)))
    where
      at_least : (k n : ℕ) → 0 < k → (k - 1 < n → ⊥) → n + 1 ≤ k
      at_least k n some h = omega arith

  stop_told : place ≡ told_count (length h.before + 1)
  stop_told = let told = h.told in omega arith

module _ (e : Expr) where
  y_false : (d : Expr) → has_y d ≡ true → has_y d ≡ false → ⊥
  y_false d a b = cc

  pub first_division_by_y : (place : ℕ)
      → IsStopped (λ d. has_y d ≡ false) (λ d. has_y d ≡ true) (divisors e) 0 place
      → (k : ℕ) × IsLeast (IsByY e) k × (place ≡ told_count k)
  first_division_by_y place h = (
    length h.before + 1,
    (
      (h.one, stop_divisor _ _ e place h, h.bad),
      λ k is. stop_least _ _ e place h k is.0 is.1 (y_false is.0 is.2),
    ),
    stop_told _ _ e place h,
  )

  pub no_division_by_y : (now : ℕ) → ArePassed (λ d. has_y d ≡ false) (divisors e) 0 now → (k : ℕ) → IsByY e k → ⊥
  no_division_by_y now h k is =
      y_false is.0 is.2 (none_at (λ d. has_y d ≡ false) (divisors e) (k - 1) is.0 h.good is.1.1)

module _ (S : SeriesRing) (e : Expr) (names : ℕ) (few : names ≤ S.variables) (valid : IsValidTree names e)
    (without : (k : ℕ) → IsByY e k → ⊥)
  where
    value_of_divisor : (k : ℕ) (d : Expr) (n : ℕ) → IsDivisor e k d → HasOrigin S.modulus d n
        → (v : Poly S) × IsValue S 0 d v × (n ≡ constant_term v)
    value_of_divisor k d n divisor h = origin_value S names few d (valid_divisor names e d k valid divisor)
        (flat_divisors d (not_true (has_y d) (λ y. without k (d, divisor, y)))) n h

    origin_of_divisor : (k : ℕ) (d : Expr) (v : Poly S) → IsDivisor e k d → IsValue S 0 d v
        → HasOrigin S.modulus d (constant_term v)
    origin_of_divisor k d v divisor is = value_origin S names few d v (valid_divisor names e d k valid divisor) is

    fails_no_good : (k c : ℕ) (f : Fails S e k c) → IsByUnit S.modulus f.0 → ⊥
    fails_no_good k c (d, divisor, v, is, at, no_unit) good = no_unit (subst (IsUnit S.modulus) (sym at)
        (good (constant_term v) (origin_of_divisor k d v divisor is)))

    pub first_failing : (value place : ℕ)
        → IsStopped (IsByUnit S.modulus) (IsByNoUnit S.modulus value) (divisors e) 0 place
        → (k : ℕ) × Fails S e k value × IsLeast (λ i. (c : ℕ) × Fails S e i c) k × (place ≡ told_count k)
    first_failing value place h =
        let divisor = stop_divisor _ _ e place h in
        let v = value_of_divisor _ h.one value divisor h.bad.0 in
        let fails : Fails S e (length h.before + 1) value = (h.one, divisor, v.0, v.1, v.2, h.bad.1) in (
          length h.before + 1,
          fails,
          ((value, fails), λ i f. stop_least _ _ e place h i f.1.0 f.1.1 (fails_no_good i f.0 f.1)),
          stop_told _ _ e place h,
        )

    pub none_failing : (now : ℕ) → ArePassed (IsByUnit S.modulus) (divisors e) 0 now → (k c : ℕ) → Fails S e k c → ⊥
    none_failing now h k c f = fails_no_good k c f
        (none_at (IsByUnit S.modulus) (divisors e) (k - 1) f.0 h.good f.1.1)

-- the same in each ring of a modulus
module _ (m : ℕ) (two : 2 ≤ m) (e : Expr) (names : HasEightNames e) (without : (k : ℕ) → IsByY e k → ⊥)
    (ws : List ℕ)
  where
    few : names.0 ≤ (series_ring m ws).variables
    few = subst (λ n. names.0 ≤ n) (sym (series_ring-variables m ws)) names.1

    pub first_failing_in : (value place : ℕ)
        → IsStopped (IsByUnit m) (IsByNoUnit m value) (divisors e) 0 place
        → (k : ℕ) × Fails (series_ring m ws) e k value
        × IsLeast (λ i. (c : ℕ) × Fails (series_ring m ws) e i c) k × (place ≡ told_count k)
    first_failing_in value place h = first_failing (series_ring m ws) e names.0 few names.2 without value place
        (subst (λ k. IsStopped (IsByUnit k) (IsByNoUnit k value) (divisors e) 0 place)
        (sym (modulus_is m ws two)) h)

    pub none_failing_in : (now : ℕ) → ArePassed (IsByUnit m) (divisors e) 0 now → (k c : ℕ)
        → Fails (series_ring m ws) e k c → ⊥
    none_failing_in now h = none_failing (series_ring m ws) e names.0 few names.2 without now
        (subst (λ k. ArePassed (IsByUnit k) (divisors e) 0 now) (sym (modulus_is m ws two)) h)
