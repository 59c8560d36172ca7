-- A tree without Y has no divisor with Y.
use Rattle.std.proofs.Common.{◌≡◌, Bool, true, false, ◌∷◌, refl, ◌||◌}
use Rattle.std.specs.List.{All}
use Rattle.std.proofs.lemmas.List.Elements.{All-nil, All-cons, All-append}
use Rattle.ps_model.specs.declared.expr.Expr.{Expr, Number, Name, MainVariable, Sum', Product', Power'}
use Rattle.ps_model.specs.declared.expr.Expr.{end_of-Expr, more_of-Expr}
use Rattle.ps_model.specs.declared.expr.Expr.{Row_of-Summand, end_of-Summand, more_of-Summand}
use Rattle.ps_model.specs.declared.expr.Expr.{Row_of-Factor, end_of-Factor, more_of-Factor}
use Rattle.ps_model.specs.Tree.{has_y, summands_have_y, factors_have_y, divisors, summand_divisors, factor_divisors}

pub not_true : (b : Bool) → (b ≡ true → ⊥) → b ≡ false
not_true true h = absurd (h refl)
not_true false h = refl

left_false : (a b : Bool) → (a || b) ≡ false → a ≡ false
left_false true b e = absurd (cc)
left_false false b e = refl

right_false : (a b : Bool) → (a || b) ≡ false → b ≡ false
right_false true b e = absurd (cc)
right_false false b e = e

abbrev pub IsFlat : Expr → Type 0
IsFlat d = has_y d ≡ false

mutual
  pub flat_divisors : (e : Expr) → has_y e ≡ false → All IsFlat (divisors e)
  flat_divisors (Number c) h = All-nil IsFlat
  flat_divisors (Name i) h = All-nil IsFlat
  flat_divisors MainVariable h = All-nil IsFlat
  flat_divisors (Sum' shape summands) h = flat_summands summands h
  flat_divisors (Product' shape factors) h = flat_factors factors h
  flat_divisors (Power' shape (more_of-Expr base end_of-Expr) exponent) h = flat_divisors base h

  flat_summands : {m : _} (row : Row_of-Summand m) → summands_have_y row ≡ false
      → All IsFlat (summand_divisors row)
  flat_summands end_of-Summand h = All-nil IsFlat
  flat_summands (more_of-Summand minus of rest) h = All-append IsFlat (divisors of) (summand_divisors rest)
      (flat_divisors of (left_false _ _ h)) (flat_summands rest (right_false _ _ h))

  flat_factors : {m : _} (row : Row_of-Factor m) → factors_have_y row ≡ false
      → All IsFlat (factor_divisors row)
  flat_factors end_of-Factor h = All-nil IsFlat
  flat_factors (more_of-Factor true of rest) h = All-append IsFlat (of ∷ divisors of) (factor_divisors rest)
      (All-cons IsFlat of (divisors of) (left_false _ _ h) (flat_divisors of (left_false _ _ h)))
      (flat_factors rest (right_false _ _ h))
  flat_factors (more_of-Factor false of rest) h = All-append IsFlat (divisors of) (factor_divisors rest)
      (flat_divisors of (left_false _ _ h)) (flat_factors rest (right_false _ _ h))
