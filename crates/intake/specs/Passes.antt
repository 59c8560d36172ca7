-- Divisors in their order, up to the first one that is refused. Places are counted from 1, and told as told_count says.
--     divisors_of f      those of a factor: itself before those within it, where it divides
--     ArePassed Good ds seen now      all of ds are good, and with the seen ones before them there are now
--     IsStopped Good Bad ds seen place      one of ds is bad and those before it are good; with the seen ones before
--         them it stands at this place
use Rattle.std.specs.Prelude.{◌≡◌, ℕ, ◌+◌, List, ◌∷◌, ◌++◌, length, if◌then◌else◌}
use Rattle.std.specs.List.{All}
use Rattle.ps_model.specs.declared.expr.Expr.{Expr}
use Rattle.ps_model.specs.declared.expr.Factor.{Factor}
use Rattle.ps_model.specs.Tree.{divisors}
use Rattle.ps_model.specs.Input.{told_count}

abbrev pub divisors_of : Factor → List Expr
divisors_of f = if f.divide then f.of ∷ divisors f.of else divisors f.of

pub record ArePassed (Good : Expr → Type 0) (ds : List Expr) (seen now : ℕ) : Type 0 where
  pub good : All Good ds
  pub counted : now ≡ told_count (seen + length ds)

pub record IsStopped (Good Bad : Expr → Type 0) (ds : List Expr) (seen place : ℕ) : Type 0 where
  pub before : List Expr
  pub one : Expr
  pub after : List Expr
  pub split : ds ≡ before ++ one ∷ after
  pub good : All Good before
  pub bad : Bad one
  pub told : place ≡ told_count (seen + length before + 1)
