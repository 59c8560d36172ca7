use Rattle.std.proofs.Common.{[], ◌∷◌, refl, lit≤}
use Rattle.ps_model.specs.declared.expr.Expr.TheBlock.{hidden-the_row-Summand-0, shape-the_row-Summand-0}
use Rattle.ps_model.specs.declared.expr.Expr.TheBlock.{hidden-the_row-Factor-1, shape-the_row-Factor-1}
use Rattle.ps_model.specs.declared.expr.Expr.TheBlock.{hidden-the_row-Expr-2}
use denote.Hole.Carrier.{hidden}
use Rattle.ps_model.specs.declared.job.JobData.{JobData}
use Rattle.ps_model.specs.Job.{series_ring}
use Rattle.ps_model.specs.Examples.{job, root, three_y_plus_x, vanishing_cube}
use Rattle.ps_model.proofs.FaultOrder.{no_division_by_y, first_lead}
use Rattle.ps_model.proofs.AtOrigin.{no_zero, no_three, gcd_zero, gcd_three, lead_fault}
use Rattle.ps_model.proofs.examples.faults_of_leads.Goals as goal

abbrev three : JobData
three = job 6 three_y_plus_x (root 0 1 ∷ [])

abbrev cancelled : JobData
cancelled = job 7 vanishing_cube (root 0 1 ∷ [])

pub returns : goal.returns
unfolding series_ring hidden-the_row-Summand-0 shape-the_row-Summand-0 hidden-the_row-Factor-1 shape-the_row-Factor-1
    hidden-the_row-Expr-2 hidden
returns c = record {
  three = first_lead three (no_division_by_y three refl) (lit≤ tt) (lit≤ tt) refl 3 3
      (lead_fault three tt 3 no_three gcd_three);
  vanishing = first_lead cancelled (no_division_by_y cancelled refl) (lit≤ tt) (lit≤ tt) refl 0 7
      (lead_fault cancelled tt 7 no_zero gcd_zero);
}
