use Rattle.std.proofs.Common.{◌≡◌, ◌++◌, drop, string_bytes}
use Rattle.ps_model.specs.Spelling.{spelling}
use Rattle.grammar.proofs.Lists.{summand_texts, factor_texts}
use Rattle.expr_reader.proofs.printing.+print.Given as goal

abbrev pub invariant-write_expr-loop-summand : goal.invariant-write_expr-loop-summand
invariant-write_expr-loop-summand l = string_bytes l.out ++ summand_texts l.names l.first
    (drop l.summand-index l.summand-items) ≡ string_bytes l.fn.out ++ spelling l.names l.expr

abbrev pub invariant-write_expr-loop-factor : goal.invariant-write_expr-loop-factor
invariant-write_expr-loop-factor l = string_bytes l.out ++ factor_texts l.names l.first
    (drop l.factor-index l.factor-items) ≡ string_bytes l.fn.out ++ spelling l.names l.expr
