-- Each return of the pass over the divisions, and each round of its loops.
use Rattle.std.proofs.Common.{◌≡◌, true, false, ◌||◌, sym, ◌∙◌, ap, subst, arith}
use Rattle.std.proofs.lemmas.Result.{err_from_is_err_and}
use Rattle.std.specs.Prelude.{IfOk, IfErr}
use Rattle.ps_model.specs.Tree.{has_y, divisors}
use Rattle.intake.specs.Passes.{divisors_of, ArePassed, IsStopped}
use Rattle.intake.proofs.TreePasses.{divisors-of_power, has_y-of_power}
use Rattle.intake.proofs.TreePasses.{or_true, stopped_itself}
use Rattle.intake.proofs.TreePasses.{sum_going-start, sum_going-more, sum_going-end, sum_going-stop}
use Rattle.intake.proofs.TreePasses.{product_going-start, product_going-more, product_going-end, product_going-stop}
use Rattle.intake.proofs.TreePasses.{sum_y-start, sum_y-more, sum_y-end, sum_y-stop}
use Rattle.intake.proofs.TreePasses.{product_y-start, product_y-more, product_y-end, product_y-stop}
use Rattle.intake.proofs.divisions.+passes.Goals as goal
use Rattle.intake.proofs.divisions.+passes.Goals.{pass-then-passed, pass-else-passed}
use Rattle.intake.proofs.divisions.+passes.Goals.{pass-then-passed-2, pass-else-passed-2}

pub pass-loop-summand-init : goal.pass-loop-summand-init
pass-loop-summand-init t c = record {
  going = sum_going-start (λ d. has_y d ≡ false) c.args.expr.now c.args.seen _ c.in-Sum.summands c.in-Sum.is
      c.as_slice-summand-items.ensures (omega arith);
  y = sum_y-start c.args.expr.now _ c.in-Sum.summands c.in-Sum.is c.as_slice-summand-items.ensures;
}

pub pass-returns-in_err-of-in-Sum-clause-stopped : goal.pass-returns-in_err-of-in-Sum-clause-stopped
pass-returns-in_err-of-in-Sum-clause-stopped t c =
    let p = err_from_is_err_and c.from_residual.result c.from_residual.ensures.1 in
    rw (p.1, p.2) (sum_going-stop (λ d. has_y d ≡ false) c.args.expr.now c.args.seen (λ d. has_y d ≡ true)
    c.as_slice-summand-items.result.now c.loop-summand.summand-index c.loop-summand.passed.seen _
    c.summand-item.result c.loop-summand-test.true c.summand-item.is c.loop-summand.invariant.going
    c.in_err-of-in-Sum.ensures.stopped)

pub pass-returns-in_err-of-in-Sum-clause-by_y : goal.pass-returns-in_err-of-in-Sum-clause-by_y
pass-returns-in_err-of-in-Sum-clause-by_y t c =
    let p = err_from_is_err_and c.from_residual.result c.from_residual.ensures.1 in
    rw (p.1) (sum_y-stop c.args.expr.now c.as_slice-summand-items.result.now c.loop-summand.summand-index
    c.summand-item.result c.loop-summand.passed.has_y c.loop-summand-test.true c.summand-item.is
    c.in_err-of-in-Sum.ensures.by_y c.loop-summand.invariant.y)

pub pass-loop-summand-preserved : goal.pass-loop-summand-preserved
pass-loop-summand-preserved t c =
    let before = c.loop-summand.passed in
    let of = c.in_ok-of-in-Sum.of in
    let seen : of.seen ≡ c.if-passed.passed.seen = elim c.if-passed.branch [
      | pass-then-passed w ↦ sym (ap (λ p. p.seen) w.passed-is)
      | pass-else-passed w ↦ sym (ap (λ p. p.seen) w.passed-is)
    ] in
    let y : c.if-passed.passed.has_y ≡ (before.has_y || of.has_y) = elim c.if-passed.branch [
      | pass-then-passed w ↦ ap (λ p. p.has_y) w.passed-is ∙ or_true before.has_y of.has_y w.if-passed.true
      | pass-else-passed w ↦ ap (λ p. p.has_y) w.passed-is ∙ sym (ap (λ b. b || of.has_y) w.if-passed.false)
    ] in
    record {
      going = sum_going-more (λ d. has_y d ≡ false) c.args.expr.now c.args.seen c.as_slice-summand-items.result.now
          c.loop-summand.summand-index before.seen c.if-passed.passed.seen c.summand-item.result
          c.loop-summand-test.true c.summand-item.is c.loop-summand.invariant.going
          (subst (λ n. ArePassed (λ d. has_y d ≡ false) (divisors c.summand-item.result.of) before.seen n) seen
          c.in_ok-of-in-Sum.ensures.passed);
      y = sum_y-more c.args.expr.now c.as_slice-summand-items.result.now c.loop-summand.summand-index
          c.summand-item.result before.has_y of.has_y c.if-passed.passed.has_y c.loop-summand-test.true
          c.summand-item.is c.in_ok-of-in-Sum.ensures.has_y y c.loop-summand.invariant.y;
    }

pub pass-loop-factor-init : goal.pass-loop-factor-init
pass-loop-factor-init t c = record {
  going = product_going-start (λ d. has_y d ≡ false) c.args.expr.now c.args.seen _ c.in-Product.factors c.in-Product.is
      c.as_slice-factor-items.ensures (omega arith);
  y = product_y-start c.args.expr.now _ c.in-Product.factors c.in-Product.is c.as_slice-factor-items.ensures;
}

pub pass-returns-in_err-of-in-Product-clause-stopped : goal.pass-returns-in_err-of-in-Product-clause-stopped
pass-returns-in_err-of-in-Product-clause-stopped t c =
    let p = err_from_is_err_and c.from_residual-in_err-of-in-Product.result
    c.from_residual-in_err-of-in-Product.ensures.1 in
    rw (p.1, p.2) (product_going-stop (λ d. has_y d ≡ false) c.args.expr.now c.args.seen (λ d. has_y d ≡ true)
    c.as_slice-factor-items.result.now c.loop-factor.factor-index c.loop-factor.passed.seen _
    c.factor-item.result c.loop-factor-test.true c.factor-item.is c.loop-factor.invariant.going
    c.in_err-of-in-Product.ensures.stopped)

pub pass-returns-in_err-of-in-Product-clause-by_y : goal.pass-returns-in_err-of-in-Product-clause-by_y
pass-returns-in_err-of-in-Product-clause-by_y t c =
    let p = err_from_is_err_and c.from_residual-in_err-of-in-Product.result
    c.from_residual-in_err-of-in-Product.ensures.1 in
    rw (p.1) (product_y-stop c.args.expr.now c.as_slice-factor-items.result.now c.loop-factor.factor-index
    c.factor-item.result c.loop-factor.passed.has_y c.loop-factor-test.true c.factor-item.is
    c.in_err-of-in-Product.ensures.by_y c.loop-factor.invariant.y)

pub pass-loop-factor-preserved : goal.pass-loop-factor-preserved
pass-loop-factor-preserved t c =
    let before = c.loop-factor.passed in
    let of = c.in_ok-of-in-Product.of in
    let seen : of.seen ≡ c.if-passed-2.passed.seen = elim c.if-passed-2.branch [
      | pass-then-passed-2 w ↦ sym (ap (λ p. p.seen) w.passed-is)
      | pass-else-passed-2 w ↦ sym (ap (λ p. p.seen) w.passed-is)
    ] in
    let y : c.if-passed-2.passed.has_y ≡ (before.has_y || of.has_y) = elim c.if-passed-2.branch [
      | pass-then-passed-2 w ↦ ap (λ p. p.has_y) w.passed-is ∙ or_true before.has_y of.has_y w.if-passed-2.true
      | pass-else-passed-2 w ↦ ap (λ p. p.has_y) w.passed-is ∙ sym (ap (λ b. b || of.has_y) w.if-passed-2.false)
    ] in
    record {
      going = product_going-more (λ d. has_y d ≡ false) c.args.expr.now c.args.seen c.as_slice-factor-items.result.now
          c.loop-factor.factor-index before.seen c.if-passed-2.passed.seen c.factor-item.result
          c.loop-factor-test.true c.factor-item.is c.loop-factor.invariant.going
          (subst (λ n. ArePassed (λ d. has_y d ≡ false) (divisors_of c.factor-item.result) before.seen n) seen
          c.in_ok-of-in-Product.ensures.passed);
      y = product_y-more c.args.expr.now c.as_slice-factor-items.result.now c.loop-factor.factor-index
          c.factor-item.result before.has_y of.has_y c.if-passed-2.passed.has_y c.loop-factor-test.true
          c.factor-item.is c.in_ok-of-in-Product.ensures.has_y y c.loop-factor.invariant.y;
    }

pub pass-returns-after-loop-summand-clause-passed : goal.pass-returns-after-loop-summand-clause-passed
pass-returns-after-loop-summand-clause-passed t c = sum_going-end (λ d. has_y d ≡ false) c.args.expr.now c.args.seen
    c.as_slice-summand-items.result.now c.loop-summand.summand-index c.loop-summand.passed.seen
    c.loop-summand-test.false c.loop-summand.invariant.going

pub pass-returns-after-loop-summand-clause-has_y : goal.pass-returns-after-loop-summand-clause-has_y
pass-returns-after-loop-summand-clause-has_y t c = sum_y-end c.args.expr.now c.as_slice-summand-items.result.now
    c.loop-summand.summand-index c.loop-summand.passed.has_y c.loop-summand-test.false c.loop-summand.invariant.y

pub pass-returns-after-loop-factor-clause-passed : goal.pass-returns-after-loop-factor-clause-passed
pass-returns-after-loop-factor-clause-passed t c = product_going-end (λ d. has_y d ≡ false) c.args.expr.now
    c.args.seen c.as_slice-factor-items.result.now c.loop-factor.factor-index c.loop-factor.passed.seen
    c.loop-factor-test.false c.loop-factor.invariant.going

pub pass-returns-after-loop-factor-clause-has_y : goal.pass-returns-after-loop-factor-clause-has_y
pass-returns-after-loop-factor-clause-has_y t c = product_y-end c.args.expr.now c.as_slice-factor-items.result.now
    c.loop-factor.factor-index c.loop-factor.passed.has_y c.loop-factor-test.false c.loop-factor.invariant.y

pub pass-returns-in-Power-clause-passed : goal.pass-returns-in-Power-clause-passed
pass-returns-in-Power-clause-passed t c =
    subst (λ ds. IfOk c.pass-in-Power.result (λ p. ArePassed (λ d. has_y d ≡ false) ds c.args.seen p.seen))
    (divisors-of_power c.args.expr.now c.in-Power.base c.get.result.now c.in-Power.field-1 c.in-Power.is c.get.ensures)
    c.pass-in-Power.ensures.passed

pub pass-returns-in-Power-clause-has_y : goal.pass-returns-in-Power-clause-has_y
pass-returns-in-Power-clause-has_y t c = subst (λ y. IfOk c.pass-in-Power.result (λ p. p.has_y ≡ y))
    (has_y-of_power c.args.expr.now c.in-Power.base c.get.result.now c.in-Power.field-1 c.in-Power.is c.get.ensures)
    c.pass-in-Power.ensures.has_y

pub pass-returns-in-Power-clause-stopped : goal.pass-returns-in-Power-clause-stopped
pass-returns-in-Power-clause-stopped t c = subst
    (λ ds. IfErr c.pass-in-Power.result (IsStopped (λ d. has_y d ≡ false) (λ d. has_y d ≡ true) ds c.args.seen))
    (divisors-of_power c.args.expr.now c.in-Power.base c.get.result.now c.in-Power.field-1 c.in-Power.is c.get.ensures)
    c.pass-in-Power.ensures.stopped

pub pass-returns-in-Power-clause-by_y : goal.pass-returns-in-Power-clause-by_y
pass-returns-in-Power-clause-by_y t c = subst (λ y. IfErr c.pass-in-Power.result (λ _. y ≡ true))
    (has_y-of_power c.args.expr.now c.in-Power.base c.get.result.now c.in-Power.field-1 c.in-Power.is c.get.ensures)
    c.pass-in-Power.ensures.by_y

pub pass_factor-returns-in-Ok-true-clause-stopped : goal.pass_factor-returns-in-Ok-true-clause-stopped
pass_factor-returns-in-Ok-true-clause-stopped t c =
    let y : has_y c.args.factor.now.of ≡ true = cc (c.in-Ok-true.ensures.has_y) in
    stopped_itself (λ d. has_y d ≡ false) (λ d. has_y d ≡ true) c.args.factor.now c.args.seen
    c.saturating_add-place.result c.if-not-factor.false y c.saturating_add-place.ensures

pub pass_factor-returns-in-Err-clause-stopped : goal.pass_factor-returns-in-Err-clause-stopped
pass_factor-returns-in-Err-clause-stopped t c =
    stopped_itself (λ d. has_y d ≡ false) (λ d. has_y d ≡ true) c.args.factor.now c.args.seen
    c.saturating_add-place.result c.if-not-factor.false c.in-Err.ensures.by_y c.saturating_add-place.ensures
