-- Each return of the test, and each round of its loops.
use Rattle.std.proofs.Common.{sym, ◌∙◌}
use Rattle.intake.proofs.NumberParts.{sum_number-start, sum_number-more, sum_number-stop, sum_number-end}
use Rattle.intake.proofs.NumberParts.{product_number-start, product_number-more, product_number-stop}
use Rattle.intake.proofs.NumberParts.{product_number-end, number-of_power}
use Rattle.intake.proofs.leading.+is_number.Goals as goal

pub loop-summand-init : goal.loop-summand-init
loop-summand-init t c = sum_number-start c.args.expr.now _ c.in-Sum.summands c.in-Sum.is
    c.as_slice-summand-items.ensures

pub returns-then-not-is_number : goal.returns-then-not-is_number
returns-then-not-is_number t c = sum_number-stop c.args.expr.now c.as_slice-summand-items.result.now
    c.loop-summand.summand-index c.summand-item.result c.loop-summand-test.true c.summand-item.is
    (sym c.is_number.ensures ∙ c.if-not-is_number.true) c.loop-summand.invariant

pub loop-summand-preserved : goal.loop-summand-preserved
loop-summand-preserved t c = sum_number-more c.args.expr.now c.as_slice-summand-items.result.now
    c.loop-summand.summand-index c.summand-item.result c.loop-summand-test.true c.summand-item.is
    (sym c.is_number.ensures ∙ c.if-not-is_number.false) c.loop-summand.invariant

pub returns-after-loop-summand : goal.returns-after-loop-summand
returns-after-loop-summand t c = sum_number-end c.args.expr.now c.as_slice-summand-items.result.now
    c.loop-summand.summand-index c.loop-summand-test.false c.loop-summand.invariant

pub loop-factor-init : goal.loop-factor-init
loop-factor-init t c = product_number-start c.args.expr.now _ c.in-Product.factors c.in-Product.is
    c.as_slice-factor-items.ensures

pub returns-after-loop-factor : goal.returns-after-loop-factor
returns-after-loop-factor t c = product_number-end c.args.expr.now c.as_slice-factor-items.result.now
    c.loop-factor.factor-index c.loop-factor-test.false c.loop-factor.invariant

pub returns-then-not-is_number-2 : goal.returns-then-not-is_number-2
returns-then-not-is_number-2 t c = product_number-stop c.args.expr.now c.as_slice-factor-items.result.now
    c.loop-factor.factor-index c.factor-item.result c.loop-factor-test.true c.factor-item.is
    (sym c.is_number-in-loop-factor.ensures ∙ c.if-not-is_number-2.true) c.loop-factor.invariant

pub loop-factor-preserved : goal.loop-factor-preserved
loop-factor-preserved t c = product_number-more c.args.expr.now c.as_slice-factor-items.result.now
    c.loop-factor.factor-index c.factor-item.result c.loop-factor-test.true c.factor-item.is
    (sym c.is_number-in-loop-factor.ensures ∙ c.if-not-is_number-2.false) c.loop-factor.invariant

pub returns-in-Power : goal.returns-in-Power
returns-in-Power t c = c.is_number-in-Power.ensures ∙ number-of_power c.args.expr.now c.in-Power.base c.get.result.now
    c.in-Power.field-1 c.in-Power.is c.get.ensures
