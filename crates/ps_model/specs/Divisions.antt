-- The divisions of a tree in a ring, where the name at place i has the value values i.
--     IsDivisor e k d      d is behind the sign of division k of e, counted from 1; of a number, none is
--     IsByY e k      the divisor of division k has Y
--     Fails S e k value      in a job, division k fails: its divisor has this value at the origin,
--         which is no unit
--     DividesByUnits S values e      no divisor of e has Y, nor has a value of one, and at the origin
--         the value of each is a unit
use Rattle.std.specs.Prelude.{◌≡◌, ℕ, ◌-◌, ◌<◌, true, false, Some, slice_get}
use Rattle.ps_model.specs.declared.expr.Expr.{Expr}
use Rattle.ps_model.specs.Bounds.{HasNoPowerAbove, IsUnit}
use Rattle.ps_model.specs.Notation.{constant_term}
use Rattle.ps_model.specs.SeriesRing.{SeriesRing, Poly}
use Rattle.ps_model.specs.Tree.{has_y, divisors}
use Rattle.ps_model.specs.Value.{IsValue, IsValueWith}

abbrev pub IsDivisor : Expr → ℕ → Expr → Type 0
IsDivisor e k d = (0 < k) × (slice_get (divisors e) (k - 1) ≡ Some d)

abbrev pub IsByY : Expr → ℕ → Type 0
IsByY e k = (d : Expr) × IsDivisor e k d × (has_y d ≡ true)

abbrev pub Fails : (S : SeriesRing) → Expr → ℕ → ℕ → Type 0
Fails S e k value =
    (d : Expr) × IsDivisor e k d × (v : Poly S) × IsValue S 0 d v
    × (value ≡ constant_term v) × (IsUnit S.modulus value → ⊥)

pub record DividesByUnits (S : SeriesRing) (values : ℕ → Poly S) (e : Expr) : Type 0 where
  pub without_y : (k : ℕ) (d : Expr) → IsDivisor e k d → has_y d ≡ false
  pub no_power : (k D : ℕ) (d : Expr) (v : Poly S) → IsDivisor e k d → IsValueWith S D values d v
      → HasNoPowerAbove 0 v
  pub units : (k : ℕ) (d : Expr) (v : Poly S) → IsDivisor e k d → IsValueWith S 0 values d v
      → IsUnit S.modulus (constant_term v)
