use Rattle.std.proofs.Common.{◌≡◌, true, false, [], refl, sym, ◌∙◌, ap, subst}
use Rattle.ps_model.specs.declared.expr.Expr.TheBlock.{hidden-the_row-Summand-0, shape-the_row-Summand-0}
use Rattle.ps_model.specs.declared.expr.Expr.TheBlock.{hidden-the_row-Factor-1, shape-the_row-Factor-1}
use Rattle.ps_model.specs.declared.expr.Expr.TheBlock.{hidden-the_row-Expr-2}
use denote.Hole.Carrier.{hidden}
use Rattle.ps_model.specs.Keys.{y_key}
use Rattle.ps_model.specs.Polynomial.{one, zero as nought}
use Rattle.ps_model.specs.Bounds.{IsUnit}
use Rattle.ps_model.specs.Notation.{constant_term}
use Rattle.ps_model.specs.SeriesRing.{SeriesRing, ring, Poly}
use Rattle.ps_model.specs.Value.{IsValue}
use Rattle.ps_model.specs.Job.{series_ring}
use Rattle.ps_model.specs.Examples.{ring_modulo, x, y, number, divided, raised, two_x_three_x}
use Rattle.ps_model.proofs.Coefficients.{coefficient-polynomial}
use Rattle.ps_model.proofs.FormalSums.{same_sums, zero_listed, one_listed}
use Rattle.ps_model.proofs.Evaluated.{evaluated, is_value, only_value}
use Rattle.ps_model.proofs.AtOrigin.{no_zero}
use Rattle.ps_model.proofs.Divided.{geometric_value}
use Rattle.ps_model.proofs.examples.values.Goals as goal

abbrev S : SeriesRing
S = ring_modulo 7

abbrev T : SeriesRing
T = ring_modulo 6

vanishing : IsValue T 2 two_x_three_x (nought (ring T))
unfolding series_ring hidden-the_row-Summand-0 shape-the_row-Summand-0 hidden-the_row-Factor-1 shape-the_row-Factor-1
    hidden-the_row-Expr-2 hidden
vanishing = subst (λ p. IsValue T 2 two_x_three_x p)
    (same_sums (ring T) (evaluated T 2 two_x_three_x) [] refl ∙ sym (zero_listed (ring T)))
    (is_value T 2 two_x_three_x tt)

vanishes : (v : Poly T) → IsValue T 2 two_x_three_x v → v ≡ nought (ring T)
unfolding series_ring hidden-the_row-Summand-0 shape-the_row-Summand-0 hidden-the_row-Factor-1 shape-the_row-Factor-1
    hidden-the_row-Expr-2 hidden
vanishes v is = only_value T 2 two_x_three_x tt v is
    ∙ same_sums (ring T) (evaluated T 2 two_x_three_x) [] refl ∙ sym (zero_listed (ring T))

residue : IsValue S 2 (number 8) (one (ring S))
unfolding series_ring
residue = subst (λ p. IsValue S 2 (number 8) p)
    (same_sums (ring S) (evaluated S 2 (number 8)) _ refl ∙ sym (one_listed (ring S))) (is_value S 2 (number 8) tt)

power_zero : IsValue S 2 (raised (number 0) 0) (one (ring S))
unfolding series_ring hidden-the_row-Summand-0 shape-the_row-Summand-0 hidden-the_row-Factor-1 shape-the_row-Factor-1
    hidden-the_row-Expr-2 hidden
power_zero = subst (λ p. IsValue S 2 (raised (number 0) 0) p)
    (same_sums (ring S) (evaluated S 2 (raised (number 0) 0)) _ refl ∙ sym (one_listed (ring S)))
    (is_value S 2 (raised (number 0) 0) tt)

by_x : (v : Poly S) → IsValue S 2 (divided x x) v → ⊥
unfolding series_ring hidden-the_row-Summand-0 shape-the_row-Summand-0 hidden-the_row-Factor-1 shape-the_row-Factor-1
    hidden-the_row-Expr-2 hidden
by_x v (first, is, (w, next, is', (no_y, inverse, divides), later)) =
    no_zero (subst (IsUnit 7) (ap (λ q. constant_term q) (only_value S 2 x tt w is')
    ∙ coefficient-polynomial (ring S) (evaluated S 2 x) (y_key S.variables 0)) inverse)

by_y : (v : Poly S) → IsValue S 2 (divided y y) v → ⊥
unfolding series_ring hidden-the_row-Summand-0 shape-the_row-Summand-0 hidden-the_row-Factor-1 shape-the_row-Factor-1
    hidden-the_row-Expr-2 hidden
by_y v (first, is, (w, next, is', (no_y, inverse, divides), later)) = contradiction no_y
  where
    contradiction : true ≡ false → ⊥
    contradiction e = cc

pub returns : goal.returns
returns c = record {
  vanishing = vanishing;
  vanishes = vanishes;
  geometric = geometric_value;
  residue = residue;
  power_zero = power_zero;
  by_x = by_x;
  by_y = by_y;
}
