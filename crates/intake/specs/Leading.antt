-- What is told of a tree's leading number.
--     IsLeading m e degree number      the tree's formal degree, and modulo m its leading number; None where that
--         isn't known
use Rattle.std.specs.Prelude.{◌≡◌, ℕ, ◌↔◌, Option, Some, List}
use Rattle.ps_model.specs.declared.expr.Expr.{Expr}
use Rattle.ps_model.specs.Tree.{formal_degree}
use Rattle.ps_model.specs.Value.{HasLead}
use Rattle.ps_model.specs.Job.{series_ring}

pub record IsLeading (m : ℕ) (e : Expr) (degree : ℕ) (number : Option ℕ) : Type 0 where
  pub degree_is : degree ≡ formal_degree e
  pub number_is : (ws : List ℕ) (l : ℕ) → (number ≡ Some l) ↔ HasLead (series_ring m ws) e l
