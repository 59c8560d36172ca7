-- Whether a number is a unit, and that a greatest common divisor exists. Equations are stable.
use Rattle.std.proofs.Common.{◌≡◌, ℕ, zero, suc, ◌*◌, ◌%◌, ◌<◌, ◌⊎◌, inl, inr, true, false, refl, sym, ◌∙◌}
use Rattle.std.proofs.Common.{ap, arith}
use Rattle.std.specs.Prelude.{◌==◌}
use Rattle.std.specs.Int.{IsGcd}
use Rattle.std.proofs.Math.Nat.{mod-lt}
use Rattle.std.proofs.lemmas.Bool.{eqb-true, eqb-false}
use Rattle.std.proofs.lemmas.Bool.Decides.{eqb_tells}
use Rattle.std.proofs.lemmas.Nat.Gcd.{IsGcd-from_zero, IsGcd-from_mod}
use Rattle.ps_model.specs.Ring.{Ring}
use Rattle.ps_model.specs.Bounds.{IsUnit}
use Rattle.ps_model.specs.Polynomial.{Polynomial, coefficient}
use Rattle.ps_model.proofs.Coefficients.{same_coefficients}

-- numbers that can't differ are equal
pub number_stable : (a b : ℕ) → ((a ≡ b → ⊥) → ⊥) → a ≡ b
number_stable a b h = elim (a == b) as (λ r. (a == b) ≡ r → a ≡ b) [
  | true ↦ λ e. eqb-true a b e
  | false ↦ λ e. absurd (h (eqb-false a b e))
] refl

-- and so are polynomials
pub polynomial_stable : (R : Ring) (p q : Polynomial R) → ((p ≡ q → ⊥) → ⊥) → p ≡ q
polynomial_stable R p q h = same_coefficients R p q
    (λ k. number_stable _ _ (λ ne. h (λ e. ne (ap (λ r. coefficient R r k) e))))

inverse_below : (m x n : ℕ) → ((e : ℕ) × (e < n) × ((x * e) % m ≡ 1))
    ⊎ ((e : ℕ) → e < n → (x * e) % m ≡ 1 → ⊥)
inverse_below m x zero = inr (λ e lt is. absurd (omega arith))
inverse_below m x (suc n) = elim (inverse_below m x n) [
  | inl found ↦ inl (found.0, (let lt = found.1 in omega arith), found.2)
  | inr none ↦ elim (eqb_tells ((x * n) % m) 1) [
    | inl is ↦ inl (n, omega arith, is.1)
    | inr other ↦ inr (λ e lt is. elim (eqb_tells e n) [
      | inl last ↦ other.1 (ap (λ k. (x * k) % m) (sym last.1) ∙ is)
      | inr before ↦ none e (let ne = before.1 in omega arith) is
    ])
  ]
]

-- whether a number is a unit
pub unit_decided : (m x : ℕ) → IsUnit m x ⊎ (IsUnit m x → ⊥)
unit_decided m x = elim (inverse_below m x m) [
  | inl found ↦ inl (record { inverse = found.0; is_residue = found.1; inverts = found.2 })
  | inr none ↦ inr (λ u. none u.inverse u.is_residue u.inverts)
]

-- units can't fail to be units
pub unit_stable : (m x : ℕ) → ((IsUnit m x → ⊥) → ⊥) → IsUnit m x
unit_stable m x h = elim (unit_decided m x) [ inl unit ↦ unit | inr not ↦ absurd (h not) ]

gcd_below : (n a b : ℕ) → b < n → (g : ℕ) × IsGcd a b g
gcd_below zero a b lt = absurd (omega arith)
gcd_below (suc n) a b lt = elim (eqb_tells b 0) [
  | inl none ↦ (a, IsGcd-from_zero a b none.1)
  | inr some ↦
      let rest = gcd_below n b (a % b) (below a b n (positive b some.1) lt) in
      (rest.0, IsGcd-from_mod a b rest.0 rest.1)
]
  where
    positive : (b : ℕ) → (b ≡ 0 → ⊥) → 0 < b
    positive b h = omega arith

    below : (a b n : ℕ) → 0 < b → b < suc n → a % b < n
    below a b n some lt = let less : a % b < b = mod-lt a some in omega arith

-- the greatest common divisor
pub gcd_exists : (a b : ℕ) → (g : ℕ) × IsGcd a b g
gcd_exists a b = gcd_below (suc b) a b (omega arith)
