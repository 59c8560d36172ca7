-- The value of a tree at the origin, where each variable and Y are 0, modulo m.
--     HasEightNames e      the tree is one of an expression over at most eight names
--     IsShare m divide a b      what a factor of value a multiplies by: the inverse of a where it divides, a elsewhere
--     HasOrigin m e n      n is the value of e at the origin; of a number, its residue
--     HasSumOrigin m so_far summands n      n is so_far with the values of the summands
--     HasProductOrigin m so_far factors n      n is so_far times what the factors multiply by
--     IsByUnit m d      no value of the divisor d is anything but a unit
--     IsByNoUnit m value d      d has this value, which is no unit
use Rattle.std.specs.Prelude.{◌≡◌, ℕ, ◌+◌, ◌-◌, ◌*◌, ◌%◌, ◌^◌, ◌<◌, ◌≤◌, Bool, MatchBool, if◌then◌else◌}
use Rattle.ps_model.specs.declared.expr.Expr.{Expr, Number, Name, MainVariable, Sum', Product', Power'}
use Rattle.ps_model.specs.declared.expr.Expr.{end_of-Expr, more_of-Expr}
use Rattle.ps_model.specs.declared.expr.Expr.{Row_of-Summand, end_of-Summand, more_of-Summand}
use Rattle.ps_model.specs.declared.expr.Expr.{Row_of-Factor, end_of-Factor, more_of-Factor}
use Rattle.ps_model.specs.Bounds.{IsUnit}
use Rattle.ps_model.specs.Tree.{IsValidTree}

abbrev pub HasEightNames : Expr → Type 0
HasEightNames e = (names : ℕ) × (names ≤ 8) × IsValidTree names e

module _ (m : ℕ) where
  abbrev pub IsShare : Bool → ℕ → ℕ → Type 0
  IsShare divide a b = MatchBool divide ((b < m) × ((a * b) % m ≡ 1)) (b ≡ a)

  abbrev mutual
    pub HasOrigin : Expr → ℕ → Type 0
    HasOrigin (Number c) n = n ≡ c % m
    HasOrigin (Name i) n = n ≡ 0
    HasOrigin MainVariable n = n ≡ 0
    HasOrigin (Sum' shape summands) n = HasSumOrigin 0 summands n
    HasOrigin (Product' shape factors) n = HasProductOrigin 1 factors n
    HasOrigin (Power' shape (more_of-Expr base end_of-Expr) exponent) n =
        (a : ℕ) × HasOrigin base a × (n ≡ (a ^ exponent) % m)

    pub HasSumOrigin : {k : _} → ℕ → Row_of-Summand k → ℕ → Type 0
    HasSumOrigin so_far end_of-Summand n = n ≡ so_far
    HasSumOrigin so_far (more_of-Summand minus of rest) n =
        (a : ℕ) × HasOrigin of a × HasSumOrigin ((so_far + (if minus then m - a else a)) % m) rest n

    pub HasProductOrigin : {k : _} → ℕ → Row_of-Factor k → ℕ → Type 0
    HasProductOrigin so_far end_of-Factor n = n ≡ so_far
    HasProductOrigin so_far (more_of-Factor divide of rest) n =
        (a : ℕ) × (b : ℕ) × HasOrigin of a × IsShare divide a b × HasProductOrigin ((so_far * b) % m) rest n

  abbrev pub IsByUnit : Expr → Type 0
  IsByUnit d = (n : ℕ) → HasOrigin d n → IsUnit m n

  abbrev pub IsByNoUnit : ℕ → Expr → Type 0
  IsByNoUnit value d = HasOrigin d value × (IsUnit m value → ⊥)
