-- Inputs without roots, a ring S and a tree e: what may be wrong with one.
--     InputFault      what may be wrong with it, with the values that are told
--     input_order f      the faults' one order, from 1
--     IsInputFault S e f      this is wrong with the input
--     IsFirstInputFault S e f      it is, and nothing that comes earlier in the order
--     IsValidInput S e      nothing is wrong with it
--     IsLeast P k      k is the least number with P
--     told_count n      a count as it is told: at most 2^32 - 1
use Rattle.std.specs.Prelude.{◌≡◌, ℕ, ◌<◌, ◌≤◌, min}
use Rattle.std.specs.Int.{IsGcd}
use Rattle.ps_model.specs.declared.expr.Expr.{Expr}
use Rattle.ps_model.specs.SeriesRing.{SeriesRing}
use Rattle.ps_model.specs.Tree.{formal_degree, node_count}
use Rattle.ps_model.specs.Divisions.{IsByY, Fails}

pub data InputFault : Type 0 where
  DividesByY : ℕ → InputFault
  TooManyNodes : ℕ → InputFault
  DegreeTooLarge : ℕ → InputFault
  NotAUnit : ℕ → ℕ → ℕ → InputFault

abbrev pub input_order : InputFault → ℕ
input_order (DividesByY division) = 1
input_order (TooManyNodes count) = 2
input_order (DegreeTooLarge degree) = 3
input_order (NotAUnit division value gcd) = 4

abbrev pub IsLeast : (ℕ → Type 0) → ℕ → Type 0
IsLeast P k = P k × ((i : ℕ) → P i → k ≤ i)

abbrev pub told_count : ℕ → ℕ
told_count n = min n 4294967295

module _ (S : SeriesRing) (e : Expr) where
  abbrev pub IsInputFault : InputFault → Type 0
  IsInputFault (DividesByY division) = IsLeast (IsByY e) division
  IsInputFault (TooManyNodes count) = (4096 < node_count e) × (count ≡ told_count (node_count e))
  IsInputFault (DegreeTooLarge degree) = (32 < formal_degree e) × (degree ≡ told_count (formal_degree e))
  IsInputFault (NotAUnit division value gcd) =
      Fails S e division value × IsLeast (λ k. (c : ℕ) × Fails S e k c) division × IsGcd value S.modulus gcd

  pub record IsFirstInputFault (f : InputFault) : Type 0 where
    pub holds : IsInputFault f
    pub first : (g : InputFault) → IsInputFault g → input_order f ≤ input_order g

  abbrev pub IsValidInput : Type 0
  IsValidInput = (f : InputFault) → IsInputFault f → ⊥
