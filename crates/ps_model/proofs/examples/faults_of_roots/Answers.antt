use Rattle.std.proofs.Common.{ℕ, zero, suc, ◌≤◌, [], ◌∷◌, refl, arith, lit<, lit≤}
use Rattle.ps_model.specs.declared.expr.Expr.TheBlock.{hidden-the_row-Summand-0, shape-the_row-Summand-0}
use Rattle.ps_model.specs.declared.expr.Expr.TheBlock.{hidden-the_row-Factor-1, shape-the_row-Factor-1}
use Rattle.ps_model.specs.declared.expr.Expr.TheBlock.{hidden-the_row-Expr-2}
use denote.Hole.Carrier.{hidden}
use Rattle.ps_model.specs.declared.job.JobData.{JobData}
use Rattle.ps_model.specs.Job.{series_ring, DifferAt}
use Rattle.ps_model.specs.Examples.{job, root, square_plus_x, minus_one, square_plus_one, square_plus_y, two_y_plus_one}
use Rattle.ps_model.proofs.FaultOrder.{no_division_by_y, first_mismatch, first_not_apart, first_roots, near, apart}
use Rattle.ps_model.proofs.FaultOrder.{no_pair}
use Rattle.ps_model.proofs.AtOrigin.{no_zero, no_three, gcd_zero, gcd_three, unit, unit_lead, at_origin, agree_at}
use Rattle.ps_model.proofs.examples.faults_of_roots.Goals as goal

abbrev short : JobData
short = job 7 square_plus_x (root 0 3 ∷ [])

abbrev close : JobData
close = job 6 square_plus_x (root 1 1 ∷ root 4 1 ∷ [])

abbrev twice : JobData
twice = job 7 square_plus_x (root 3 1 ∷ root 3 1 ∷ [])

abbrev minus : JobData
minus = job 7 minus_one (root 1 1 ∷ root 5 1 ∷ [])

abbrev plus : JobData
plus = job 7 square_plus_one (root 0 2 ∷ [])

abbrev power : JobData
power = job 7 square_plus_y (root 0 1 ∷ root 3 1 ∷ [])

abbrev led : JobData
led = job 7 two_y_plus_one (root 0 1 ∷ [])

lowest : (j : JobData) (k : ℕ) → DifferAt j k → 0 ≤ k
lowest j k h = omega arith

second : (k : ℕ) → DifferAt power k → 1 ≤ k
unfolding series_ring hidden-the_row-Summand-0 shape-the_row-Summand-0 hidden-the_row-Factor-1 shape-the_row-Factor-1
    hidden-the_row-Expr-2 hidden
second zero h = absurd (agree_at power tt 0 refl h)
second (suc k) h = omega arith

pub returns : goal.returns
unfolding series_ring hidden-the_row-Summand-0 shape-the_row-Summand-0 hidden-the_row-Factor-1 shape-the_row-Factor-1
    hidden-the_row-Expr-2 hidden
returns c = record {
  degree = first_mismatch short (no_division_by_y short refl) (lit≤ tt) (lit≤ tt) refl
      (unit_lead short tt (unit 7 1 1 (lit< tt) refl)) 2 3 ((λ e. omega arith), refl, refl);
  near = first_not_apart close (no_division_by_y close refl) (lit≤ tt) (lit≤ tt) refl
      (unit_lead close tt (unit 6 1 1 (lit< tt) refl)) refl 1 2 3 3
      (near 6 square_plus_x (root 1 1) (root 4 1) 3 no_three gcd_three);
  twice = first_not_apart twice (no_division_by_y twice refl) (lit≤ tt) (lit≤ tt) refl
      (unit_lead twice tt (unit 7 1 1 (lit< tt) refl)) refl 1 2 0 7
      (near 7 square_plus_x (root 3 1) (root 3 1) 7 no_zero gcd_zero);
  minus = first_roots minus (no_division_by_y minus refl) (lit≤ tt) (lit≤ tt) refl
      (unit_lead minus tt (unit 7 1 1 (lit< tt) refl)) refl
      (apart 7 minus_one (root 1 1) (root 5 1) (unit 7 3 5 (lit< tt) refl)) 0 6 5
      (let h = at_origin minus tt 0 in (h, ((6, 5, h, λ e. omega arith), lowest minus)));
  plus = first_roots plus (no_division_by_y plus refl) (lit≤ tt) (lit≤ tt) refl
      (unit_lead plus tt (unit 7 1 1 (lit< tt) refl)) refl (no_pair 7 square_plus_one (root 0 2)) 0 1 0
      (let h = at_origin plus tt 0 in (h, ((1, 0, h, λ e. omega arith), lowest plus)));
  power = first_roots power (no_division_by_y power refl) (lit≤ tt) (lit≤ tt) refl
      (unit_lead power tt (unit 7 1 1 (lit< tt) refl)) refl
      (apart 7 square_plus_y (root 0 1) (root 3 1) (unit 7 4 2 (lit< tt) refl)) 1 1 4
      (let h = at_origin power tt 1 in (h, ((1, 4, h, λ e. omega arith), second)));
  lead = first_roots led (no_division_by_y led refl) (lit≤ tt) (lit≤ tt) refl
      (unit_lead led tt (unit 7 2 4 (lit< tt) refl)) refl (no_pair 7 two_y_plus_one (root 0 1)) 0 1 0
      (let h = at_origin led tt 0 in (h, ((1, 0, h, λ e. omega arith), lowest led)));
}
