-- The least number with a property that is decided, and the item at a place of a list.
use Rattle.std.proofs.Common.{◌≡◌, ℕ, zero, suc, ◌<◌, ◌≤◌, ◌⊎◌, inl, inr, List, Option, None, Some, refl, subst, arith}
use Rattle.std.specs.Prelude.{slice_get}
use Rattle.std.proofs.lemmas.Bool.Decides.{eqb_tells}
use Rattle.ps_model.specs.Input.{IsLeast}

at_least : (n k : ℕ) → (k < n → ⊥) → n ≤ k
at_least n k h = omega arith

module _ (P : ℕ → Type 0) (decided : (n : ℕ) → P n ⊎ (P n → ⊥)) where
  least_below : (n : ℕ) → ((k : ℕ) × IsLeast P k) ⊎ ((k : ℕ) → k < n → P k → ⊥)
  least_below zero = inr (λ k lt is. absurd (omega arith))
  least_below (suc n) = elim (least_below n) [
    | inl found ↦ inl found
    | inr none ↦ elim (decided n) [
      | inl here ↦ inl (n, (here, λ i is. at_least n i (λ lt. none i lt is)))
      | inr other ↦ inr (λ k lt is. elim (eqb_tells k n) [
        | inl last ↦ other (subst P last.1 is)
        | inr before ↦ none k (let ne = before.1 in omega arith) is
      ])
    ]
  ]

  -- where none is at the bound or above
  pub least_decided : (n : ℕ) → ((k : ℕ) → P k → k < n) → ((k : ℕ) × IsLeast P k) ⊎ ((k : ℕ) → P k → ⊥)
  least_decided n within = elim (least_below n) [
    | inl found ↦ inl found
    | inr none ↦ inr (λ k is. none k (within k is) is)
  ]

some_decided : {A : Type 0} (o : Option A) → ((x : A) × (o ≡ Some x)) ⊎ ((x : A) → o ≡ Some x → ⊥)
some_decided None = inr (λ x e. absurd (cc))
some_decided (Some x) = inl (x, refl)

-- the item at a place
pub item_decided : {A : Type 0} (xs : List A) (i : ℕ)
    → ((x : A) × (slice_get xs i ≡ Some x)) ⊎ ((x : A) → slice_get xs i ≡ Some x → ⊥)
item_decided xs i = some_decided (slice_get xs i)

pub one_item : {A : Type 0} (xs : List A) (i : ℕ) (x y : A) → slice_get xs i ≡ Some x → slice_get xs i ≡ Some y → x ≡ y
one_item xs i x y e f = cc
