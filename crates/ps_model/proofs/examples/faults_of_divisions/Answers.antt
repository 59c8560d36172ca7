use Rattle.std.proofs.Common.{◌≡◌, ℕ, zero, suc, ◌-◌, ◌≤◌, inl, inr, true, false, [], ◌∷◌, refl, sym, ◌∙◌, ap}
use Rattle.std.proofs.Common.{subst, arith, lit<, lit≤}
use Rattle.ps_model.specs.declared.expr.Expr.TheBlock.{hidden-the_row-Summand-0, shape-the_row-Summand-0}
use Rattle.ps_model.specs.declared.expr.Expr.TheBlock.{hidden-the_row-Factor-1, shape-the_row-Factor-1}
use Rattle.ps_model.specs.declared.expr.Expr.TheBlock.{hidden-the_row-Expr-2}
use denote.Hole.Carrier.{hidden}
use Rattle.std.specs.Prelude.{Some}
use Rattle.ps_model.specs.declared.expr.Expr.{Expr}
use Rattle.ps_model.specs.declared.job.JobData.{JobData}
use Rattle.ps_model.specs.Keys.{y_key}
use Rattle.ps_model.specs.Bounds.{IsUnit}
use Rattle.ps_model.specs.Tree.{has_y}
use Rattle.ps_model.specs.SeriesRing.{ring, Poly}
use Rattle.ps_model.specs.Value.{IsValue}
use Rattle.ps_model.specs.Notation.{constant_term}
use Rattle.ps_model.specs.Divisions.{Fails}
use Rattle.ps_model.specs.Input.{DividesByY}
use Rattle.ps_model.specs.Job.{job_ring, series_ring, OfInput, IsFault}
use Rattle.ps_model.specs.Examples.{job, root, x, number, divided, added, one_over_x, one_over_two_plus_x}
use Rattle.ps_model.specs.Examples.{double_division, ring_modulo}
use Rattle.ps_model.proofs.Coefficients.{coefficient-polynomial}
use Rattle.ps_model.proofs.Evaluated.{evaluated, only_value}
use Rattle.ps_model.proofs.FaultOrder.{one_member, two_members, first_not_unit}
use Rattle.ps_model.proofs.AtOrigin.{fails, no_zero, gcd_zero, no_two, gcd_two}
use Rattle.ps_model.proofs.examples.faults_of_divisions.Goals as goal

abbrev single : JobData
single = job 7 one_over_x (root 0 1 ∷ [])

abbrev composite : JobData
composite = job 6 one_over_two_plus_x (root 0 1 ∷ [])

abbrev double : JobData
double = job 7 double_division (root 0 1 ∷ [])

without_y : (d e : Expr) → has_y e ≡ false → d ≡ e → has_y d ≡ true → ⊥
without_y d e none is has = let p : true ≡ false = sym has ∙ ap has_y is ∙ none in absurd (cc)

single_by_y : (k : ℕ) → IsFault single (OfInput (DividesByY k)) → ⊥
unfolding hidden-the_row-Summand-0 shape-the_row-Summand-0 hidden-the_row-Factor-1 shape-the_row-Factor-1 hidden
single_by_y k ((d, (some, at), has), least) = without_y d x refl ((one_member x d (k - 1) at).1) has

composite_by_y : (k : ℕ) → IsFault composite (OfInput (DividesByY k)) → ⊥
unfolding hidden-the_row-Summand-0 shape-the_row-Summand-0 hidden-the_row-Factor-1 shape-the_row-Factor-1 hidden
composite_by_y k ((d, (some, at), has), least) =
    let below = added (number 2) x in without_y d below refl ((one_member below d (k - 1) at).1) has

double_by_y : (k : ℕ) → IsFault double (OfInput (DividesByY k)) → ⊥
unfolding hidden-the_row-Summand-0 shape-the_row-Summand-0 hidden-the_row-Factor-1 shape-the_row-Factor-1 hidden
double_by_y k ((d, (some, at), has), least) = elim (two_members (divided (number 1) x) x d (k - 1) at) [
  | inl p ↦ without_y d (divided (number 1) x) refl (p.1) has
  | inr p ↦ without_y d x refl (p.1) has
]

-- divisions are counted from 1
positive : (j : JobData) (k : ℕ) → ((c : ℕ) × Fails (job_ring j) j.expr k c) → 1 ≤ k
positive j k (c, (d, (some, at), v, is, at', not_unit)) = omega arith

-- 1 / x has no value
no_value : (v : Poly (ring_modulo 7)) → IsValue (ring_modulo 7) 0 (divided (number 1) x) v → ⊥
unfolding series_ring hidden-the_row-Summand-0 shape-the_row-Summand-0 hidden-the_row-Factor-1 shape-the_row-Factor-1
    hidden-the_row-Expr-2 hidden
no_value v (first, is, (w, next, is', (no_y, unit, quotient), later)) =
    no_zero (subst (IsUnit 7) (ap (λ q. constant_term q) (only_value (ring_modulo 7) 0 x tt w is')
    ∙ coefficient-polynomial (ring (ring_modulo 7)) (evaluated (ring_modulo 7) 0 x)
    (y_key (ring_modulo 7).variables 0)) unit)

second : (k : ℕ) → ((c : ℕ) × Fails (job_ring double) double.expr k c) → 2 ≤ k
unfolding series_ring hidden-the_row-Summand-0 shape-the_row-Summand-0 hidden-the_row-Factor-1 shape-the_row-Factor-1
    hidden-the_row-Expr-2 hidden
second zero (c, (d, (some, at), v, is, at', not_unit)) = absurd (omega arith)
second (suc zero) (c, (d, (some, at), v, is, at', not_unit)) =
    absurd (no_value v (subst (λ d. IsValue (ring_modulo 7) 0 d v) (first d at) is))
  where
    first : (d : Expr) → Some (divided (number 1) x) ≡ Some d → d ≡ divided (number 1) x
    first d e = cc
second (suc (suc k)) h = omega arith

pub returns : goal.returns
unfolding series_ring hidden-the_row-Summand-0 shape-the_row-Summand-0 hidden-the_row-Factor-1 shape-the_row-Factor-1
    hidden-the_row-Expr-2 hidden
returns c = record {
  by_x = first_not_unit single single_by_y (lit≤ tt) (lit≤ tt) 1 0 7
      (let f = fails single 1 x tt (lit< tt, refl) no_zero in (f, ((0, f), positive single), gcd_zero));
  double = first_not_unit double double_by_y (lit≤ tt) (lit≤ tt) 2 0 7
      (let f = fails double 2 x tt (lit< tt, refl) no_zero in (f, ((0, f), second), gcd_zero));
  two = first_not_unit composite composite_by_y (lit≤ tt) (lit≤ tt) 1 2 2
      (let f = fails composite 1 (added (number 2) x) tt (lit< tt, refl) no_two in
      (f, ((2, f), positive composite), gcd_two));
}
