use Rattle.std.proofs.Common.{◌≡◌, ℕ, ◌<◌, ◌≤◌, true, false, refl, lit<, lit≤, arith}
use Rattle.ps_model.specs.declared.expr.Expr.TheBlock.{hidden-the_row-Summand-0, shape-the_row-Summand-0}
use Rattle.ps_model.specs.declared.expr.Expr.TheBlock.{hidden-the_row-Factor-1, shape-the_row-Factor-1}
use Rattle.ps_model.specs.declared.expr.Expr.TheBlock.{hidden-the_row-Expr-2}
use denote.Hole.Carrier.{hidden}
use Rattle.ps_model.proofs.examples.valid_trees.Goals as goal

no : false ≡ true → ⊥
no e = cc

too_large : (a b : ℕ) → a ≤ b → b < a → ⊥
too_large a b le lt = omega arith

pub returns : goal.returns
unfolding hidden-the_row-Summand-0 shape-the_row-Summand-0 hidden-the_row-Factor-1 shape-the_row-Factor-1
    hidden-the_row-Expr-2 hidden
returns c = record {
  quadratic = (tt, ((tt, lit≤ tt), ((refl, (lit< tt, (tt, tt))), (lit< tt, tt))));
  lone_minus = (refl, (tt, tt));
  lone_summand = λ h. no (h.0);
  lone_factor = λ h. h.0;
  divided_first = λ h. no (h.0);
  exponent = (tt, lit≤ tt);
  large_exponent = λ h. too_large _ _ (h.1) (lit< tt);
  number = lit< tt;
  large_number = λ h. too_large _ _ h (lit≤ tt);
  unnamed = λ h. omega arith;
}
