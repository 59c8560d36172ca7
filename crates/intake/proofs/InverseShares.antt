-- What a divisor adds to a leading number: the inverse of its value at the origin.
use Rattle.std.proofs.Common.{◌≡◌, ℕ, ◌*◌, ◌%◌, ◌<◌, ◌≤◌, ◌↔◌, true, List, Some, None, sym, ◌∙◌, ap, subst}
use Rattle.ps_model.specs.declared.expr.Expr.{Expr}
use Rattle.ps_model.specs.Bounds.{IsUnit}
use Rattle.ps_model.specs.Job.{series_ring}
use Rattle.ps_model.specs.Notation.{constant_term}
use Rattle.ps_model.specs.SeriesRing.{SeriesRing, Poly}
use Rattle.ps_model.specs.Tree.{is_number, divisors}
use Rattle.ps_model.specs.Value.{IsValue, HasInverseShare}
use Rattle.ps_model.proofs.TreeLeads.{number_without_y}
use Rattle.intake.specs.Origin.{HasEightNames, HasOrigin, IsByUnit, IsByNoUnit}
use Rattle.intake.specs.Passes.{IsStopped}
use Rattle.intake.proofs.Failures.{series_ring-variables}
use Rattle.intake.proofs.FlatDivisors.{flat_divisors}
use Rattle.intake.proofs.LeadRows.{same_some, none_some}
use Rattle.intake.proofs.OriginPasses.{no_origin}
use Rattle.intake.proofs.OriginValues.{value_origin, origin_value}
use Rattle.intake.proofs.Origins.{inverse_once, origin_once}
use Rattle.intake.proofs.RootProducts.{modulus_is}

pub no_number : (S : SeriesRing) (d : Expr) (l : ℕ) → (is_number d ≡ true → ⊥)
    → (None ≡ Some l) ↔ HasInverseShare S d l
no_number S d l none = (λ e. absurd (none_some l e), λ h. absurd (none h.0))

module _ (m : ℕ) (two : 2 ≤ m) (ws : List ℕ) (d : Expr) (names : HasEightNames d) where
  abbrev S : SeriesRing
  S = series_ring m ws

  few : names.0 ≤ S.variables
  few = subst (λ n. names.0 ≤ n) (sym (series_ring-variables m ws)) names.1

  here : S.modulus ≡ m
  here = modulus_is m ws two

  share_origin : (l : ℕ) (h : HasInverseShare S d l) → HasOrigin m d (constant_term h.1)
  share_origin l h = subst (λ k. HasOrigin k d (constant_term h.1)) here
      (value_origin S names.0 few d h.1 names.2 h.2)

  -- a divisor of it is no unit
  pub no_divisors : (value seen place l : ℕ)
      → IsStopped (IsByUnit m) (IsByNoUnit m value) (divisors d) seen place → (None ≡ Some l) ↔ HasInverseShare S d l
  no_divisors value seen place l stopped = (
    λ e. absurd (none_some l e),
    λ h. absurd (no_origin m d value seen place stopped (constant_term h.1) (share_origin l h)),
  )

  module _ (a : ℕ) (has : HasOrigin m d a) where
    value_is : (l : ℕ) (h : HasInverseShare S d l) → constant_term h.1 ≡ a
    value_is l h = origin_once m d (constant_term h.1) a (share_origin l h) has

    -- it is no unit itself
    pub no_inverse : (l : ℕ) → (IsUnit m a → ⊥) → (None ≡ Some l) ↔ HasInverseShare S d l
    no_inverse l none = (
      λ e. absurd (none_some l e),
      λ h. absurd (none (subst (IsUnit m) (value_is l h) (subst (λ k. IsUnit k (constant_term h.1)) here
          (record { inverse = l; is_residue = h.3; inverts = h.4 })))),
    )

    pub with_inverse : (x l : ℕ) → is_number d ≡ true → x < m → (a * x) % m ≡ 1
        → (Some x ≡ Some l) ↔ HasInverseShare S d l
    with_inverse x l number small one = (
      λ e. subst (HasInverseShare S d) (same_some x l e) (
        number,
        value.0,
        value.1,
        subst (λ k. x < k) (sym here) small,
        ap (λ n. (n * x) % S.modulus) (sym value.2) ∙ ap (λ k. (a * x) % k) here ∙ one,
      ),
      λ h. ap Some (inverse_once m a x l small (subst (λ k. l < k) here h.3) one
          (ap (λ n. (n * l) % m) (sym (value_is l h)) ∙ ap (λ k. (constant_term h.1 * l) % k) (sym here) ∙ h.4)),
    )
      where
        value : (v : Poly S) × IsValue S 0 d v × (a ≡ constant_term v)
        value = origin_value S names.0 few d names.2 (flat_divisors d (number_without_y d number)) a
            (subst (λ k. HasOrigin k d a) (sym here) has)
