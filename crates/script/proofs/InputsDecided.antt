-- Each input has a first fault or none.
use Rattle.std.proofs.Common.{◌≡◌, ℕ, suc, ◌-◌, ◌<◌, ◌≤◌, ◌⊎◌, inl, inr, true, length, refl, sym, ◌∙◌}
use Rattle.std.proofs.Common.{subst, arith}
use Rattle.std.proofs.lemmas.Bool.{cases_lt}
use Rattle.std.proofs.lemmas.Option.{slice_get_within}
use Rattle.ps_model.specs.declared.expr.Expr.{Expr}
use Rattle.ps_model.specs.Bounds.{IsUnit}
use Rattle.ps_model.specs.Divisions.{IsDivisor, IsByY, Fails}
use Rattle.ps_model.specs.Input.{InputFault, DividesByY, TooManyNodes, DegreeTooLarge, NotAUnit, IsLeast, told_count}
use Rattle.ps_model.specs.Input.{IsFirstInputFault, IsValidInput}
use Rattle.ps_model.specs.Polynomial.{coefficient}
use Rattle.ps_model.specs.SeriesRing.{SeriesRing, ring, Poly}
use Rattle.ps_model.specs.Tree.{formal_degree, node_count, has_y, divisors}
use Rattle.ps_model.specs.Value.{variable, IsValue}
use Rattle.ps_model.proofs.TreeValues.{variable_flat, same_value}
use Rattle.ps_model.proofs.UnitsDecided.{unit_decided, gcd_exists}
use Rattle.intake.proofs.InputFaults.{first_by_y_fault, nodes_fault, degree_fault, unit_fault, no_input_fault}
use Rattle.script.proofs.Searches.{least_decided, item_decided, one_item}
use Rattle.script.proofs.ValuesDecided.{bool_decided, not_both, value_decided}

-- a count above a small limit is told as one
told_above : (limit n : ℕ) → limit ≤ 4096 → limit < n → limit < told_count n
told_above limit n small lt = omega arith

module _ (S : SeriesRing) (e : Expr) where
  -- a divisor with a property that is decided
  divisor_decided : (Q : Expr → Type 0) → ((d : Expr) → Q d ⊎ (Q d → ⊥)) → (k : ℕ)
      → ((d : Expr) × IsDivisor e k d × Q d) ⊎ ((d : Expr) → IsDivisor e k d → Q d → ⊥)
  divisor_decided Q decided k = elim (cases_lt 0 k) [
    | inr none ↦ inr (λ d at is. absurd (let some = at.0 in omega arith))
    | inl some ↦ elim (item_decided (divisors e) (k - 1)) [
      | inr past ↦ inr (λ d at is. past d at.1)
      | inl here ↦ elim (decided here.0) [
        | inl is ↦ inl (here.0, (some, here.1), is)
        | inr other ↦ inr (λ d at is. other (subst Q (one_item (divisors e) (k - 1) d here.0 at.1 here.1) is))
      ]
    ]
  ]

  inside : (k : ℕ) (d : Expr) → IsDivisor e k d → k < suc (length (divisors e))
  inside k d at = let lt = slice_get_within (divisors e) (k - 1) d at.1 in omega arith

  has_y_decided : (d : Expr) → (has_y d ≡ true) ⊎ (has_y d ≡ true → ⊥)
  has_y_decided d = elim (bool_decided (has_y d)) [
    | inl some ↦ inl some
    | inr none ↦ inr (λ some. not_both (sym some ∙ none))
  ]

  by_y_decided : ((k : ℕ) × IsLeast (IsByY e) k) ⊎ ((k : ℕ) → IsByY e k → ⊥)
  by_y_decided = least_decided (IsByY e) (λ k. elim (divisor_decided (λ d. has_y d ≡ true) has_y_decided k) [
    | inl found ↦ inl found
    | inr none ↦ inr (λ (d, at, has). none d at has)
  ]) (suc (length (divisors e))) (λ k (d, at, has). inside k d at)

  -- a value at the origin that is no unit
  abbrev HasNoUnit : Expr → Type 0
  HasNoUnit d = (v : Poly S) × IsValue S 0 d v × (IsUnit S.modulus (coefficient (ring S) v (ring S).origin) → ⊥)

  no_unit_decided : (d : Expr) → HasNoUnit d ⊎ (HasNoUnit d → ⊥)
  no_unit_decided d = elim (value_decided S (variable S) (variable_flat S) 0 d) [
    | inr none ↦ inr (λ (v, is, other). none v is)
    | inl found ↦ elim (unit_decided S.modulus (coefficient (ring S) found.0 (ring S).origin)) [
      | inr other ↦ inl (found.0, found.1, other)
      | inl unit ↦ inr (λ (v, is, other). other (subst
          (λ q. IsUnit S.modulus (coefficient (ring S) q (ring S).origin))
          (same_value S (variable S) (variable_flat S) 0 d found.0 v found.1 is) unit))
    ]
  ]

  fails_decided : (k : ℕ) → ((c : ℕ) × Fails S e k c) ⊎ (((c : ℕ) × Fails S e k c) → ⊥)
  fails_decided k = elim (divisor_decided HasNoUnit no_unit_decided k) [
    | inl found ↦ of_found found
    | inr none ↦ inr (λ (c, (d, at, v, is, c_is, other)). none d at
        (v, is, λ unit. other (subst (IsUnit S.modulus) (sym c_is) unit)))
  ]
    where
      of_found : (d : Expr) × IsDivisor e k d × HasNoUnit d
          → ((c : ℕ) × Fails S e k c) ⊎ (((c : ℕ) × Fails S e k c) → ⊥)
      of_found (d, at, (v, is, other)) = inl
          (coefficient (ring S) v (ring S).origin, (d, at, v, is, refl, other))

  failure_decided : ((k : ℕ) × IsLeast (λ k. (c : ℕ) × Fails S e k c) k) ⊎ ((k : ℕ) → (c : ℕ) × Fails S e k c → ⊥)
  failure_decided = least_decided (λ k. (c : ℕ) × Fails S e k c) fails_decided (suc (length (divisors e)))
      (λ k (c, (d, at, v, is, c_is, other)). inside k d at)

  -- the tests, in the order of the faults
  by_failures : ((k : ℕ) → IsByY e k → ⊥) → node_count e ≤ 4096 → formal_degree e ≤ 32
      → ((f : InputFault) × IsFirstInputFault S e f) ⊎ IsValidInput S e
  by_failures no_y few small = elim failure_decided [
    | inl found ↦
        let gcd = gcd_exists found.1.0.0 S.modulus in
        inl (
          NotAUnit found.0 found.1.0.0 gcd.0,
          unit_fault S e no_y few small found.0 found.1.0.0 gcd.0 (found.1.0.1, found.1, gcd.1),
        )
    | inr none ↦ inr (no_input_fault S e no_y few small (λ k c fails. none k (c, fails)))
  ]

  by_degree : ((k : ℕ) → IsByY e k → ⊥) → node_count e ≤ 4096
      → ((f : InputFault) × IsFirstInputFault S e f) ⊎ IsValidInput S e
  by_degree no_y few = elim (cases_lt 32 (formal_degree e)) [
    | inl large ↦ inl (
      DegreeTooLarge (told_count (formal_degree e)),
      degree_fault S e no_y few (told_count (formal_degree e))
          (told_above 32 (formal_degree e) (omega arith) large) refl,
    )
    | inr small ↦ by_failures no_y few small
  ]

  by_nodes : ((k : ℕ) → IsByY e k → ⊥) → ((f : InputFault) × IsFirstInputFault S e f) ⊎ IsValidInput S e
  by_nodes no_y = elim (cases_lt 4096 (node_count e)) [
    | inl large ↦ inl (
      TooManyNodes (told_count (node_count e)),
      nodes_fault S e no_y (told_count (node_count e))
          (told_above 4096 (node_count e) (omega arith) large) refl,
    )
    | inr few ↦ by_degree no_y few
  ]

  -- a first fault, or none
  pub input_decided : ((f : InputFault) × IsFirstInputFault S e f) ⊎ IsValidInput S e
  input_decided = elim by_y_decided [
    | inl found ↦ inl (DividesByY found.0, first_by_y_fault S e found.0 found.1)
    | inr no_y ↦ by_nodes no_y
  ]
