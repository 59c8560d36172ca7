use Rattle.std.proofs.Common.{rules, arith, ◌≡◌, ◌++◌, ap, sym, subst, ◌∙◌, length, codes, true, append_assoc}
use Rattle.std.proofs.lemmas.Grind.{common_steps}
use Rattle.std.specs.Fmt.{decimal}
use Rattle.ps_model.specs.Tree.{IsValidTree}
use Rattle.ps_model.specs.declared.expr.Expr.{Expr}
use Rattle.ps_model.specs.declared.expr.Expr.TheViews.{the_lemmas}
use Rattle.ps_model.specs.Spelling.{spelling, inside}
use Rattle.grammar.proofs.Lists.{summand_texts, factor_texts, spelling-Sum, spelling-Product, spelling-Power}
use Rattle.grammar.proofs.Lists.{valid_summand, valid_factor, IsValidTree-Power}
use Rattle.expr_reader.proofs.printing.+print.Goals as goal

pub write_expr-loop-summand-init : goal.write_expr-loop-summand-init
write_expr-loop-summand-init t c =
    let e : spelling c.args.names.now c.args.expr.now ≡ summand_texts c.args.names.now true
    c.as_slice-summand-items.result.now = ap (spelling c.args.names.now) c.in-Sum.is ∙ spelling-Sum _ _
    ∙ ap (summand_texts c.args.names.now true) (sym c.as_slice-summand-items.ensures) in
    grind (arith, common_steps)

pub write_expr-write_inside-requires : goal.write_expr-write_inside-requires
write_expr-write_inside-requires t c = (
  search (rules, the_lemmas),
  valid_summand _ _ _ _ _ _ c.in-Sum.is c.as_slice-summand-items.ensures
      (omega arith) c.summand-item.is c.requires,
)

pub write_expr-loop-factor-init : goal.write_expr-loop-factor-init
write_expr-loop-factor-init t c =
    let e : spelling c.args.names.now c.args.expr.now ≡ factor_texts c.args.names.now true
    c.as_slice-factor-items.result.now = ap (spelling c.args.names.now) c.in-Product.is ∙ spelling-Product _ _
    ∙ ap (factor_texts c.args.names.now true) (sym c.as_slice-factor-items.ensures) in
    grind (arith, common_steps)

pub write_expr-write_inside-requires-in-loop-factor : goal.write_expr-write_inside-requires-in-loop-factor
write_expr-write_inside-requires-in-loop-factor t c = (
  search (rules, the_lemmas),
  valid_factor _ _ _ _ _ _ c.in-Product.is c.as_slice-factor-items.ensures
      (omega arith) c.factor-item.is c.requires,
)

pub write_expr-write_inside-requires-in-Power : goal.write_expr-write_inside-requires-in-Power
write_expr-write_inside-requires-in-Power t c = (
  search (rules, the_lemmas),
  subst (λ (b : Expr). IsValidTree (length c.args.names.now) b) (sym c.get.ensures)
      (IsValidTree-Power _ _ c.in-Power.exponent (subst
      (λ (b : Expr). IsValidTree (length c.args.names.now) b) c.in-Power.is c.requires)),
)

pub write_expr-returns-in_ok-write-in-Power : goal.write_expr-returns-in_ok-write-in-Power
write_expr-returns-in_ok-write-in-Power t c =
    let e : spelling c.args.names.now c.args.expr.now ≡ inside 3 c.get.result.now
    (spelling c.args.names.now c.get.result.now) ++ codes "^" ++ decimal c.in-Power.exponent = ap
    (spelling c.args.names.now) c.in-Power.is ∙ spelling-Power _ _ _ ∙ ap
    (λ (b : Expr). inside 3 b (spelling c.args.names.now b) ++ codes "^" ++ decimal c.in-Power.exponent)
    (sym c.get.ensures) in
    grind (arith, common_steps, append_assoc)
