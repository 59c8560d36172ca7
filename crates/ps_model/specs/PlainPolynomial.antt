-- Maps as polynomials modulo m, and the bounds of their entries.
--     plain_polynomial m ws p      the polynomial of a map in the ring series_ring m ws
--     HasResiduesBelow m p      each coefficient of p is below m
--     HasValuesBelow m p      so is the value at each key, 0 where it is absent
--     y_part k p      the entries with Y^k and above
--     greatest_key p      at each variable and at Y the greatest power in p
--     total_powers fs      the sum of those of all of fs
--     AreAtMost n x b      no power of x is above that of b
--     IsWithin x b      nor is the power of Y
--     HasKeysWithin b p      each key of p is within b
--     small_key      the third powers of the first two variables and of Y
use Rattle.std.specs.Prelude.{◌≡◌, ℕ, zero, suc, ◌<◌, ◌≤◌, max, Some, nat_le, List, [], ◌∷◌}
use Rattle.std.specs.List.{All}
use Rattle.std.specs.FinMap.{FinMap, get, entries, retain_keys}
use Rattle.ps_model.specs.Keys.{Key, Powers, key_compare, add_keys, no_powers, y_key}
use Rattle.ps_model.specs.SeriesRing.{ring, Poly}
use Rattle.ps_model.specs.Notation.{of_map}
use Rattle.ps_model.specs.Job.{series_ring}
use Rattle.ps_model.specs.Plain.{value_in}

unfoldable pub plain_polynomial : (m : ℕ) (ws : List ℕ) → FinMap (key_compare 8) ℕ → Poly (series_ring m ws)
unfolding series_ring
plain_polynomial m ws p = of_map {R = ring (series_ring m ws)} p

abbrev pub HasResiduesBelow : ℕ → FinMap (key_compare 8) ℕ → Type 0
HasResiduesBelow m p = All (λ e. e.1 < m) (entries p)

unfoldable pub HasValuesBelow : ℕ → FinMap (key_compare 8) ℕ → Type 0
HasValuesBelow m p = (k : Key 8) → value_in p k < m

abbrev pub y_part : ℕ → FinMap (key_compare 8) ℕ → FinMap (key_compare 8) ℕ
y_part k p = retain_keys p (λ x. nat_le k x.y)

abbrev pub greater_powers : (n : ℕ) → Powers n → Powers n → Powers n
greater_powers zero x z = tt
greater_powers (suc n) x z = (max x.0 z.0, greater_powers n x.1 z.1)

abbrev pub greatest : List (Key 8 × ℕ) → Key 8
greatest [] = y_key 8 0
greatest (e ∷ es) = record { powers = greater_powers 8 e.0.powers (greatest es).powers; y = max e.0.y (greatest es).y }

unfoldable pub greatest_key : FinMap (key_compare 8) ℕ → Key 8
greatest_key p = greatest (entries p)

unfoldable pub total_powers : List (FinMap (key_compare 8) ℕ) → Key 8
total_powers [] = y_key 8 0
total_powers (f ∷ fs) = add_keys 8 (greatest_key f) (total_powers fs)

abbrev pub AreAtMost : (n : ℕ) → Powers n → Powers n → Type 0
AreAtMost zero x b = Unit {0}
AreAtMost (suc n) x b = (x.0 ≤ b.0) × AreAtMost n x.1 b.1

pub record IsWithin (x b : Key 8) : Type 0 where
  pub powers : AreAtMost 8 x.powers b.powers
  pub y : x.y ≤ b.y

pub record HasKeysWithin (b : Key 8) (p : FinMap (key_compare 8) ℕ) : Type 0 where
  pub at : (k : Key 8) (c : ℕ) → get p k ≡ Some c → IsWithin k b

abbrev pub small_key : Key 8
small_key = record { powers = (3, (3, no_powers 6)); y = 3 }
