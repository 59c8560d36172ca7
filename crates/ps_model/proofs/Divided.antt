-- Values of trees with a division, from a quotient that is told.
use Rattle.std.proofs.Common.{◌≡◌, ℕ, ◌++◌, T, true, false, List, [], ◌∷◌, refl, sym, subst, lit<}
use Rattle.ps_model.specs.declared.expr.Expr.TheBlock.{hidden-the_row-Summand-0, shape-the_row-Summand-0}
use Rattle.ps_model.specs.declared.expr.Expr.TheBlock.{hidden-the_row-Factor-1, shape-the_row-Factor-1}
use Rattle.ps_model.specs.declared.expr.Expr.TheBlock.{hidden-the_row-Expr-2}
use denote.Hole.Carrier.{hidden}
use Rattle.ps_model.specs.declared.expr.Expr.{Expr}
use Rattle.ps_model.specs.Keys.{Key, y_key}
use Rattle.ps_model.specs.Polynomial.{polynomial}
use Rattle.ps_model.specs.Bounds.{IsUnit}
use Rattle.ps_model.specs.SeriesRing.{SeriesRing, ring}
use Rattle.ps_model.specs.Tree.{has_y}
use Rattle.ps_model.specs.Value.{IsValue}
use Rattle.ps_model.specs.Job.{series_ring}
use Rattle.ps_model.specs.Examples.{x, y, number, added, subtracted, divided, raised, two_y_squared, geometric}
use Rattle.ps_model.specs.Examples.{halved, key, ring_modulo}
use Rattle.ps_model.proofs.Coefficients.{coefficient-polynomial}
use Rattle.ps_model.proofs.FormalSums.{normal, zero_listed}
use Rattle.ps_model.proofs.Evaluated.{undivided, times, cut, signed, evaluated, is_value, of_sum}
use Rattle.ps_model.proofs.AtOrigin.{number_at, unit}
use Rattle.ps_model.proofs.FactorSums.{is_quotient}

module _ (S : SeriesRing) (D : ℕ) where
  pub divided_value : (a b : Expr) (qs : List (Key S.variables × ℕ)) → T (undivided a) → T (undivided b)
      → has_y b ≡ false → IsUnit S.modulus (number_at S (evaluated S D b) (y_key S.variables 0))
      → normal (ring S) (cut S D qs) ≡ normal (ring S) qs
      → normal (ring S) (cut S D (times S qs (evaluated S D b))) ≡ normal (ring S) (evaluated S D a)
      → IsValue S D (divided a b) (polynomial (ring S) qs)
  unfolding hidden-the_row-Factor-1 shape-the_row-Factor-1 hidden
  divided_value a b qs h h' none is_unit within back = (
    polynomial (ring S) (evaluated S D a),
    is_value S D a h,
    (
      polynomial (ring S) (evaluated S D b),
      polynomial (ring S) qs,
      is_value S D b h',
      (
        none,
        subst (IsUnit S.modulus) (sym (coefficient-polynomial (ring S) (evaluated S D b) (y_key S.variables 0)))
            is_unit,
        is_quotient S D (evaluated S D a) (evaluated S D b) qs within back,
      ),
      refl,
    ),
  )

-- the examples are modulo 7
abbrev S : SeriesRing
S = ring_modulo 7

-- 1 + x + x^2
abbrev pub series : List (Key S.variables × ℕ)
series = (key S.variables [] 0, 1) ∷ (key S.variables (1 ∷ []) 0, 1) ∷ (key S.variables (2 ∷ []) 0, 1) ∷ []

pub geometric_value : IsValue S 2 geometric (polynomial (ring S) series)
unfolding series_ring hidden-the_row-Summand-0 shape-the_row-Summand-0 hidden-the_row-Factor-1 shape-the_row-Factor-1
    hidden-the_row-Expr-2 hidden
geometric_value = divided_value S 2 (number 1) (subtracted (number 1) x) series tt tt refl (unit 7 1 1 (lit< tt) refl)
    refl refl

-- Y^2 - 1 - x - x^2
abbrev pub square_less_series : List (Key S.variables × ℕ)
square_less_series = normal (ring S) (signed S false (evaluated S 2 (raised y 2)) ++ normal (ring S)
    (signed S true series ++ []))

pub square_less_geometric : IsValue S 2 (subtracted (raised y 2) geometric) (polynomial (ring S) square_less_series)
unfolding hidden-the_row-Summand-0 shape-the_row-Summand-0 hidden-the_row-Expr-2 hidden
square_less_geometric = (
  polynomial (ring S) (evaluated S 2 (raised y 2)),
  polynomial (ring S) (normal (ring S) (signed S true series ++ [])),
  is_value S 2 (raised y 2) tt,
  (
    polynomial (ring S) series,
    polynomial (ring S) [],
    geometric_value,
    sym (zero_listed (ring S)),
    sym (of_sum S 2 true series []),
  ),
  sym (of_sum S 2 false (evaluated S 2 (raised y 2)) (normal (ring S) (signed S true series ++ []))),
)

-- Y^2 + 4*x
abbrev pub half : List (Key S.variables × ℕ)
half = (key S.variables [] 2, 1) ∷ (key S.variables (1 ∷ []) 0, 4) ∷ []

pub halved_value : IsValue S 1 halved (polynomial (ring S) half)
unfolding series_ring hidden-the_row-Summand-0 shape-the_row-Summand-0 hidden-the_row-Factor-1 shape-the_row-Factor-1
    hidden-the_row-Expr-2 hidden
halved_value = divided_value S 1 (added two_y_squared x) (number 2) half tt tt refl (unit 7 2 4 (lit< tt) refl)
    refl refl
