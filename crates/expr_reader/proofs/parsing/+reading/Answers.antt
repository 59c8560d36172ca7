use Rattle.expr_reader.specs.Reading.{token_of}
use Rattle.std.proofs.Common.{◌∙◌, sym, ap, arith, length, ◌∷◌, ◌+◌, ◌<◌, ◌≡◌}
use Rattle.std.proofs.lemmas.Result.{err_from_is_err_and}
use Rattle.grammar.specs.Machine.{start, operand, based, fresh}
use Rattle.expr_reader.proofs.Stopped.{stops_along, opened}
use Rattle.expr_reader.proofs.parsing.+reading.Goals as goal

pub base-returns-in_err-of-in-Open-clause-moves : goal.base-returns-in_err-of-in-Open-clause-moves
base-returns-in_err-of-in-Open-clause-moves t c = λ fr outer same.
    let p = err_from_is_err_and c.from_residual.result c.from_residual.ensures.1 in
    let shallow : length outer < 64 = omega arith in
    let deeper : length (fr ∷ outer) ≡ c.args.depth + 1 = grind arith in
    rw (p.1, p.2) (stops_along (operand fr outer) (start
    (fr ∷ outer)) c.args.reader.now c.advance-in-Open.new.self c.in_err-of-in-Open.field-0.0
    (opened fr outer _ _ (sym c.token.ensures ∙ ap token_of c.in-Open.is) c.advance-in-Open.ensures shallow)
    (c.in_err-of-in-Open.ensures.moves (fr ∷ outer) deeper))

pub expression-returns-in_err-of-clause-moves : goal.expression-returns-in_err-of-clause-moves
expression-returns-in_err-of-clause-moves t c = λ outer same.
    let p = err_from_is_err_and c.from_residual.result c.from_residual.ensures.1 in
    rw (p.1, p.2) (stops_along (start outer)
    (operand (fresh c.loop-summands.summands c.loop-summands.minus) outer) c.args.reader.now c.loop-summands.reader
    c.in_err-of.field-0.0
    (c.loop-summands.invariant.moves outer same)
    (c.in_err-of.ensures.moves c.loop-summands.summands c.loop-summands.minus outer same))

pub power-returns-in_err-exponent-clause-moves : goal.power-returns-in_err-exponent-clause-moves
power-returns-in_err-exponent-clause-moves t c = λ fr outer same.
    let p = err_from_is_err_and c.from_residual-in_err-exponent.result c.from_residual-in_err-exponent.ensures.1 in
    rw (p.1, p.2) (stops_along (operand fr outer)
    (based c.in_ok-of.of fr outer) c.args.reader.now c.base.new.reader c.in_err-exponent.field-0.0
    (c.in_ok-of.ensures.moves fr outer same) (c.in_err-exponent.ensures.moves c.in_ok-of.of fr outer))

pub term-returns-in_err-of-clause-moves : goal.term-returns-in_err-of-clause-moves
term-returns-in_err-of-clause-moves t c = λ ss minus outer same.
    let p = err_from_is_err_and c.from_residual.result c.from_residual.ensures.1 in
    rw (p.1, p.2) (stops_along (operand (fresh ss minus) outer)
    (operand (record {
      summands = ss;
      minus = minus;
      factors = c.loop-factors.factors;
      divide =
          c.loop-factors.divide;
    }) outer) c.args.reader.now c.loop-factors.reader c.in_err-of.field-0.0
    (c.loop-factors.invariant.moves ss minus outer same)
    (c.in_err-of.ensures.moves (record {
      summands = ss;
      minus = minus;
      factors = c.loop-factors.factors;
      divide =
          c.loop-factors.divide;
    }) outer same))
