use Rattle.std.proofs.Common.{◌≡◌, ℕ, ◌<◌, get_or}
use Rattle.ps_model.specs.declared.expr.Summand.{Summand}
use Rattle.ps_model.specs.declared.expr.Factor.{Factor}
use Rattle.ps_model.proofs.comparison.+same.Given as goal

abbrev pub invariant-summands : goal.invariant-summands
invariant-summands l = (k : ℕ) (d : Summand) → k < l.i → get_or l.x k d ≡ get_or l.y k d

abbrev pub invariant-factors : goal.invariant-factors
invariant-factors l = (k : ℕ) (d : Factor) → k < l.i → get_or l.x k d ≡ get_or l.y k d
