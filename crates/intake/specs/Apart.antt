-- Roots whose difference is no unit.
--     AreTooNear m roots i j difference      the roots i and j, counted from 1, have this difference
--         modulo m, and it is no unit
--     IsNextNear m roots i pair      the pair has the root i, and is too near, with the greatest
--         common divisor of its difference and m, and no earlier root behind i is too near to it
--     IsNearRoot m roots i found      that pair, where there is one; of None, no root behind i is
--         too near to it
--     IsFirstNearPair m roots pair      the pair is too near, with the greatest common divisor of its
--         difference and m, and no other such pair comes before it, by the first root and then by
--         the second
--     IsNearPair m roots found      that pair, where there is one; of None, no pair is too near
use Rattle.std.specs.Prelude.{◌≡◌, ℕ, ◌+◌, ◌-◌, ◌%◌, ◌<◌, ◌≤◌, ◌⊎◌, List, Option, Some, None, slice_get}
use Rattle.std.specs.Int.{IsGcd}
use Rattle.ps_model.specs.declared.job.Root.{Root}
use Rattle.ps_model.specs.Bounds.{IsUnit}
use Rattle.intake.specs.declared.roots.NearPair.{NearPair}

abbrev pub AreTooNear : ℕ → List Root → ℕ → ℕ → ℕ → Type 0
AreTooNear m roots i j difference =
    (r : Root) × (s : Root) × (0 < i) × (i < j)
    × (slice_get roots (i - 1) ≡ Some r) × (slice_get roots (j - 1) ≡ Some s)
    × (difference ≡ (r.value + (m - s.value)) % m)
    × (IsUnit m difference → ⊥)

pub record IsNextNear (m : ℕ) (roots : List Root) (i : ℕ) (pair : NearPair) : Type 0 where
  pub at : pair.first ≡ i
  pub near : AreTooNear m roots i pair.second pair.difference
  pub divisor : IsGcd pair.difference m pair.gcd
  pub least : (j d : ℕ) → AreTooNear m roots i j d → pair.second ≤ j

abbrev pub IsNearRoot : ℕ → List Root → ℕ → Option NearPair → Type 0
IsNearRoot m roots i None = (j d : ℕ) → AreTooNear m roots i j d → ⊥
IsNearRoot m roots i (Some pair) = IsNextNear m roots i pair

pub record IsFirstNearPair (m : ℕ) (roots : List Root) (pair : NearPair) : Type 0 where
  pub near : AreTooNear m roots pair.first pair.second pair.difference
  pub divisor : IsGcd pair.difference m pair.gcd
  pub least : (i j d : ℕ) → AreTooNear m roots i j d → (pair.first < i) ⊎ ((pair.first ≡ i) × (pair.second ≤ j))

abbrev pub IsNearPair : ℕ → List Root → Option NearPair → Type 0
IsNearPair m roots None = (i j d : ℕ) → AreTooNear m roots i j d → ⊥
IsNearPair m roots (Some pair) = IsFirstNearPair m roots pair
