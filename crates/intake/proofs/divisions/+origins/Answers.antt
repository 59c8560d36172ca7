-- Each return of the value at the origin, and each round of its loops.
use Rattle.std.proofs.Common.{◌≡◌, ◌+◌, ◌-◌, ◌%◌, ◌<◌, sym, ◌∙◌, ap, subst, arith}
use Rattle.std.specs.Prelude.{if◌then◌else◌}
use Rattle.std.proofs.Math.Nat.{mod-lt}
use Rattle.std.proofs.lemmas.Result.{err_from_is_err_and, IfOk-weaker}
use Rattle.ps_model.specs.Tree.{divisors}
use Rattle.intake.specs.Origin.{HasOrigin, IsByUnit, IsByNoUnit}
use Rattle.intake.specs.Passes.{ArePassed, IsStopped}
use Rattle.intake.proofs.NearPairs.{no_unit}
use Rattle.intake.proofs.OriginPasses.{origin-Power, share-multiplies, share-divides, stopped_within, stopped_here}
use Rattle.intake.proofs.OriginPasses.{passed_here, sum_origin-start, sum_origin-more, sum_origin-end}
use Rattle.intake.proofs.OriginPasses.{product_origin-start, product_origin-more, product_origin-end}
use Rattle.intake.proofs.TreePasses.{divisors-of_power, sum_going-start, sum_going-more, sum_going-end, sum_going-stop}
use Rattle.intake.proofs.TreePasses.{product_going-start, product_going-more, product_going-end, product_going-stop}
use Rattle.intake.proofs.divisions.+origins.Goals as goal
use Rattle.intake.proofs.divisions.+origins.Goals.{at_origin-then-summand, at_origin-else-summand}

pub at_origin-loop-summand-init : goal.at_origin-loop-summand-init
at_origin-loop-summand-init t c = record {
  going = sum_going-start (IsByUnit c.args.modulus.value) c.args.expr.now c.args.seen _ c.in-Sum.summands c.in-Sum.is
      c.as_slice-summand-items.ensures (omega arith);
  residue = let two = c.args.modulus.low in omega arith;
  value = sum_origin-start c.args.modulus.value c.args.expr.now _ c.in-Sum.summands c.in-Sum.is
      c.as_slice-summand-items.ensures;
}

pub at_origin-returns-in_err-of-in-Sum-clause-stopped : goal.at_origin-returns-in_err-of-in-Sum-clause-stopped
at_origin-returns-in_err-of-in-Sum-clause-stopped t c =
    let p = err_from_is_err_and c.from_residual.result c.from_residual.ensures.1 in
    rw (p.1, p.2) (sum_going-stop (IsByUnit c.args.modulus.value) c.args.expr.now c.args.seen
    (IsByNoUnit c.args.modulus.value c.in_err-of-in-Sum.field-0.0.value) c.as_slice-summand-items.result.now
    c.loop-summand.summand-index c.loop-summand.sum.seen c.in_err-of-in-Sum.field-0.0.division c.summand-item.result
    c.loop-summand-test.true c.summand-item.is c.loop-summand.invariant.going c.in_err-of-in-Sum.ensures.stopped)

pub at_origin-loop-summand-preserved : goal.at_origin-loop-summand-preserved
at_origin-loop-summand-preserved t c =
    let m = c.args.modulus.value in
    let s = c.summand-item.result in
    let before = c.loop-summand.sum in
    let of = c.in_ok-of-in-Sum.of in
    let seen : of.seen ≡ c.if-summand.sum.seen = elim c.if-summand.branch [
      | at_origin-then-summand w ↦ sym (ap (λ p. p.seen) w.sum-is)
      | at_origin-else-summand w ↦ sym (ap (λ p. p.seen) w.sum-is)
    ] in
    let value : c.if-summand.sum.value ≡ (before.value + (if s.minus then m - of.value else of.value)) % m =
    elim c.if-summand.branch [
      | at_origin-then-summand w ↦ ap (λ p. p.value) w.sum-is ∙ w.sub.ensures
          ∙ ap (λ b. (before.value + (if b then m - of.value else of.value)) % m) (sym w.if-summand.true)
      | at_origin-else-summand w ↦ ap (λ p. p.value) w.sum-is ∙ w.add.ensures
          ∙ ap (λ b. (before.value + (if b then m - of.value else of.value)) % m) (sym w.if-summand.false)
    ] in
    record {
      going = sum_going-more (IsByUnit m) c.args.expr.now c.args.seen c.as_slice-summand-items.result.now
          c.loop-summand.summand-index before.seen c.if-summand.sum.seen s c.loop-summand-test.true c.summand-item.is
          c.loop-summand.invariant.going
          (subst (λ n. ArePassed (IsByUnit m) (divisors s.of) before.seen n) seen c.in_ok-of-in-Sum.ensures.passed);
      residue = subst (λ n. n < m) (sym value) (mod-lt _ (let two = c.args.modulus.low in omega arith));
      value = sum_origin-more m c.args.expr.now c.as_slice-summand-items.result.now c.loop-summand.summand-index
          before.value c.if-summand.sum.value of.value s c.loop-summand-test.true c.summand-item.is
          c.in_ok-of-in-Sum.ensures.value value c.loop-summand.invariant.value;
    }

pub at_origin-loop-factor-init : goal.at_origin-loop-factor-init
at_origin-loop-factor-init t c = record {
  going = product_going-start (IsByUnit c.args.modulus.value) c.args.expr.now c.args.seen _ c.in-Product.factors
      c.in-Product.is c.as_slice-factor-items.ensures (omega arith);
  residue = let two = c.args.modulus.low in omega arith;
  value = product_origin-start c.args.modulus.value c.args.expr.now _ c.in-Product.factors c.in-Product.is
      c.as_slice-factor-items.ensures;
}

pub at_origin-returns-in_err-share-in-Product-clause-stopped :
    goal.at_origin-returns-in_err-share-in-Product-clause-stopped
at_origin-returns-in_err-share-in-Product-clause-stopped t c =
    let p = err_from_is_err_and c.from_residual-in_err-share-in-Product.result
    c.from_residual-in_err-share-in-Product.ensures.1 in
    rw (p.1, p.2) (product_going-stop (IsByUnit c.args.modulus.value) c.args.expr.now c.args.seen
    (IsByNoUnit c.args.modulus.value c.in_err-share-in-Product.field-0.0.value) c.as_slice-factor-items.result.now
    c.loop-factor.factor-index c.loop-factor.product.seen c.in_err-share-in-Product.field-0.0.division
    c.factor-item.result c.loop-factor-test.true c.factor-item.is c.loop-factor.invariant.going
    c.in_err-share-in-Product.ensures.stopped)

pub at_origin-loop-factor-preserved : goal.at_origin-loop-factor-preserved
at_origin-loop-factor-preserved t c =
    let m = c.args.modulus.value in
    let before = c.loop-factor.product in
    let share = c.in_ok-share-in-Product.share in
    record {
      going = product_going-more (IsByUnit m) c.args.expr.now c.args.seen c.as_slice-factor-items.result.now
          c.loop-factor.factor-index before.seen share.seen c.factor-item.result c.loop-factor-test.true
          c.factor-item.is c.loop-factor.invariant.going c.in_ok-share-in-Product.ensures.passed;
      residue = subst (λ n. n < m) (sym c.mul.ensures) (mod-lt _ (let two = c.args.modulus.low in omega arith));
      value = product_origin-more m c.args.expr.now c.as_slice-factor-items.result.now c.loop-factor.factor-index
          before.value c.mul.result share.value c.factor-item.result c.loop-factor-test.true c.factor-item.is
          c.in_ok-share-in-Product.ensures.value c.mul.ensures c.loop-factor.invariant.value;
    }

pub at_origin-returns-in_err-base-in-Power-clause-stopped : goal.at_origin-returns-in_err-base-in-Power-clause-stopped
at_origin-returns-in_err-base-in-Power-clause-stopped t c =
    let p = err_from_is_err_and c.from_residual-in_err-base-in-Power.result
    c.from_residual-in_err-base-in-Power.ensures.1 in
    rw (p.1, p.2) (subst (λ ds. IsStopped (IsByUnit c.args.modulus.value)
    (IsByNoUnit c.args.modulus.value c.in_err-base-in-Power.field-0.0.value) ds c.args.seen
    c.in_err-base-in-Power.field-0.0.division)
    (divisors-of_power c.args.expr.now c.in-Power.base c.get.result.now c.in-Power.exponent c.in-Power.is c.get.ensures)
    c.in_err-base-in-Power.ensures.stopped)

pub at_origin-returns-after-loop-summand-clause-value : goal.at_origin-returns-after-loop-summand-clause-value
at_origin-returns-after-loop-summand-clause-value t c = sum_origin-end c.args.modulus.value c.args.expr.now
    c.as_slice-summand-items.result.now c.loop-summand.summand-index c.loop-summand.sum.value
    c.loop-summand-test.false c.loop-summand.invariant.value

pub at_origin-returns-after-loop-summand-clause-passed : goal.at_origin-returns-after-loop-summand-clause-passed
at_origin-returns-after-loop-summand-clause-passed t c = sum_going-end (IsByUnit c.args.modulus.value)
    c.args.expr.now c.args.seen c.as_slice-summand-items.result.now c.loop-summand.summand-index
    c.loop-summand.sum.seen c.loop-summand-test.false c.loop-summand.invariant.going

pub at_origin-returns-after-loop-factor-clause-value : goal.at_origin-returns-after-loop-factor-clause-value
at_origin-returns-after-loop-factor-clause-value t c = product_origin-end c.args.modulus.value c.args.expr.now
    c.as_slice-factor-items.result.now c.loop-factor.factor-index c.loop-factor.product.value
    c.loop-factor-test.false c.loop-factor.invariant.value

pub at_origin-returns-after-loop-factor-clause-passed : goal.at_origin-returns-after-loop-factor-clause-passed
at_origin-returns-after-loop-factor-clause-passed t c = product_going-end (IsByUnit c.args.modulus.value)
    c.args.expr.now c.args.seen c.as_slice-factor-items.result.now c.loop-factor.factor-index
    c.loop-factor.product.seen c.loop-factor-test.false c.loop-factor.invariant.going

pub at_origin-returns-in_ok-base-in-Power-clause-value : goal.at_origin-returns-in_ok-base-in-Power-clause-value
at_origin-returns-in_ok-base-in-Power-clause-value t c =
    let m = c.args.modulus.value in
    let a = c.in_ok-base-in-Power.base.value in
    subst (λ e. HasOrigin m e c.pow.result) (sym c.in-Power.is) (origin-Power m c.in-Power.base c.in-Power.exponent a
    c.pow.result (subst (λ e. HasOrigin m e a) c.get.ensures c.in_ok-base-in-Power.ensures.value) c.pow.ensures)

pub at_origin-returns-in_ok-base-in-Power-clause-passed : goal.at_origin-returns-in_ok-base-in-Power-clause-passed
at_origin-returns-in_ok-base-in-Power-clause-passed t c =
    subst (λ ds. ArePassed (IsByUnit c.args.modulus.value) ds c.args.seen c.in_ok-base-in-Power.base.seen)
    (divisors-of_power c.args.expr.now c.in-Power.base c.get.result.now c.in-Power.exponent c.in-Power.is c.get.ensures)
    c.in_ok-base-in-Power.ensures.passed

pub share_at_origin-returns-then-not-factor-clause-value : goal.share_at_origin-returns-then-not-factor-clause-value
share_at_origin-returns-then-not-factor-clause-value t c = IfOk-weaker c.at_origin.result _ _
    (λ o h. (o.value, h, share-multiplies c.args.modulus.value c.args.factor.now o.value c.if-not-factor.true))
    c.at_origin.ensures.value

pub share_at_origin-returns-in_err-of-clause-stopped : goal.share_at_origin-returns-in_err-of-clause-stopped
share_at_origin-returns-in_err-of-clause-stopped t c =
    let p = err_from_is_err_and c.from_residual.result c.from_residual.ensures.1 in
    rw (p.1, p.2) (stopped_within c.args.modulus.value c.args.factor.now c.in_err-of.field-0.0.value c.args.seen
    c.saturating_add-division.result c.in_err-of.field-0.0.division c.if-not-factor.false
    c.saturating_add-division.ensures c.in_err-of.ensures.stopped)

pub share_at_origin-returns-in-Ok-clause-value : goal.share_at_origin-returns-in-Ok-clause-value
share_at_origin-returns-in-Ok-clause-value t c = (
  c.in_ok-of.of.value,
  c.in_ok-of.ensures.value,
  share-divides c.args.modulus.value c.args.factor.now c.in_ok-of.of.value _ c.if-not-factor.false
      c.in-Ok.ensures.inverse.residue c.in-Ok.ensures.inverse.product,
)

pub share_at_origin-returns-in-Ok-clause-passed : goal.share_at_origin-returns-in-Ok-clause-passed
share_at_origin-returns-in-Ok-clause-passed t c = passed_here c.args.modulus.value c.args.factor.now
    c.in_ok-of.of.value _ c.args.seen c.saturating_add-division.result c.in_ok-of.of.seen c.if-not-factor.false
    c.saturating_add-division.ensures c.in_ok-of.ensures.value c.in-Ok.ensures.inverse.residue
    c.in-Ok.ensures.inverse.product c.in_ok-of.ensures.passed

pub share_at_origin-returns-in-Err-clause-stopped : goal.share_at_origin-returns-in-Err-clause-stopped
share_at_origin-returns-in-Err-clause-stopped t c = stopped_here c.args.modulus.value c.args.factor.now
    c.in_ok-of.of.value c.args.seen c.saturating_add-division.result c.if-not-factor.false
    c.saturating_add-division.ensures c.in_ok-of.ensures.value
    (no_unit c.args.modulus.value c.in_ok-of.of.value _ c.in-Err.ensures.common c.in-Err.ensures.divisor)
