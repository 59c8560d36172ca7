-- Jobs of the examples that have no fault.
use Rattle.std.proofs.Common.{refl, lit<, lit≤}
use Rattle.ps_model.specs.declared.expr.Expr.TheBlock.{hidden-the_row-Summand-0, shape-the_row-Summand-0}
use Rattle.ps_model.specs.declared.expr.Expr.TheBlock.{hidden-the_row-Factor-1, shape-the_row-Factor-1}
use Rattle.ps_model.specs.declared.expr.Expr.TheBlock.{hidden-the_row-Expr-2}
use denote.Hole.Carrier.{hidden}
use Rattle.ps_model.specs.Job.{series_ring, IsValidJob}
use Rattle.ps_model.specs.Examples.{root, split, split_job, two_y_plus_one, two_job, series_times_square, square_job}
use Rattle.ps_model.proofs.FaultOrder.{no_division_by_y, no_pair, valid, apart}
use Rattle.ps_model.proofs.AtOrigin.{unit, unit_lead, agree}

pub split_valid : IsValidJob split_job
unfolding series_ring hidden-the_row-Summand-0 shape-the_row-Summand-0 hidden-the_row-Factor-1 shape-the_row-Factor-1
    hidden-the_row-Expr-2 hidden
split_valid = valid split_job (no_division_by_y split_job refl) (lit≤ tt) (lit≤ tt) refl
    (unit_lead split_job tt (unit 15 1 1 (lit< tt) refl)) refl
    (apart 15 split (root 0 1) (root 1 1) (unit 15 14 14 (lit< tt) refl)) (agree split_job tt refl)

pub two_valid : IsValidJob two_job
unfolding series_ring hidden-the_row-Summand-0 shape-the_row-Summand-0 hidden-the_row-Factor-1 shape-the_row-Factor-1
    hidden-the_row-Expr-2 hidden
two_valid = valid two_job (no_division_by_y two_job refl) (lit≤ tt) (lit≤ tt) refl
    (unit_lead two_job tt (unit 7 2 4 (lit< tt) refl)) refl (no_pair 7 two_y_plus_one (root 3 1))
    (agree two_job tt refl)

pub square_valid : IsValidJob square_job
unfolding series_ring hidden-the_row-Summand-0 shape-the_row-Summand-0 hidden-the_row-Factor-1 shape-the_row-Factor-1
    hidden-the_row-Expr-2 hidden
square_valid = valid square_job (no_division_by_y square_job refl) (lit≤ tt) (lit≤ tt) refl
    (unit_lead square_job tt (unit 7 2 4 (lit< tt) refl)) refl (no_pair 7 series_times_square (root 0 2))
    (agree square_job tt refl)
