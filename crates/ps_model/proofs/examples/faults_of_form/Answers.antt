use Rattle.std.proofs.Common.{ℕ, ◌≤◌, [], ◌∷◌, refl, lit<, lit≤, arith}
use Rattle.ps_model.specs.declared.expr.Expr.TheBlock.{hidden-the_row-Summand-0, shape-the_row-Summand-0}
use Rattle.ps_model.specs.declared.expr.Expr.TheBlock.{hidden-the_row-Factor-1, shape-the_row-Factor-1}
use Rattle.ps_model.specs.declared.expr.Expr.TheBlock.{hidden-the_row-Expr-2}
use denote.Hole.Carrier.{hidden}
use Rattle.ps_model.specs.declared.expr.Expr.{Expr}
use Rattle.ps_model.specs.Divisions.{IsByY}
use Rattle.ps_model.specs.Job.{series_ring}
use Rattle.ps_model.specs.Examples.{job, root, y, raised, y_plus_one, tower, one_over_y}
use Rattle.ps_model.proofs.FaultOrder.{no_division_by_y, first_by_y, first_nodes, first_degree}
use Rattle.ps_model.proofs.examples.faults_of_form.Goals as goal

-- divisions are counted from 1
positive : (e : Expr) (k : ℕ) → IsByY e k → 1 ≤ k
positive e k (d, (some, at), has) = omega arith

pub returns : goal.returns
unfolding series_ring hidden-the_row-Summand-0 shape-the_row-Summand-0 hidden-the_row-Factor-1 shape-the_row-Factor-1
    hidden-the_row-Expr-2 hidden
returns c = record {
  by_y = first_by_y (job 7 one_over_y (root 0 1 ∷ [])) 1 ((y, (lit< tt, refl), refl), positive one_over_y);
  nodes = (let j = job 7 (raised y_plus_one 100) (root 6 100 ∷ []) in
      first_nodes j (no_division_by_y j refl) 5153 (lit< tt, refl));
  tower = (let j = job 7 tower (root 0 1 ∷ []) in
      first_nodes j (no_division_by_y j refl) 4294967295 (lit< tt, refl));
  degree = (let j = job 7 (raised y_plus_one 40) (root 6 40 ∷ []) in
      first_degree j (no_division_by_y j refl) (lit≤ tt) 40 (lit< tt, refl));
}
