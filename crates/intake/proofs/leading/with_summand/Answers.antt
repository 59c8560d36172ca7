-- A first summand of smaller degree, one that isn't known, one alone of its degree, and one beside others.
use Rattle.std.proofs.Common.{◌≡◌, ◌-◌, ◌%◌, ◌<◌, sym, ◌∙◌, ap, subst, arith}
use Rattle.std.specs.Prelude.{IfSome, if◌then◌else◌}
use Rattle.std.proofs.Math.Nat.{mod-eq_of_lt}
use Rattle.ps_model.specs.declared.expr.Expr.{Sum}
use Rattle.intake.specs.Leading.{IsLeading}
use Rattle.intake.proofs.LeadRows.{summand-skipped, summand-unknown, summand-alone, summand-added, summand-not_added}
use Rattle.intake.proofs.leading.with_summand.Goals as goal
use Rattle.intake.proofs.leading.with_summand.Goals.{then-summand, else-summand}

pub returns-then-of-later-clause-leading : goal.returns-then-of-later-clause-leading
returns-then-of-later-clause-leading c = λ rest h k. summand-skipped c.args.modulus.value c.args.modulus.low
    c.args.summand.now rest c.args.of.degree c.args.later.degree c.args.of.number c.args.later.number h k
    c.if-of-later.true

pub returns-in_default-clause-leading : goal.returns-in_default-clause-leading
returns-in_default-clause-leading c = λ rest h k. summand-unknown c.args.modulus.value c.args.modulus.low
    c.args.summand.now rest c.args.of.degree c.args.later.degree c.args.later.number k c.if-of-later.false
    (subst (IsLeading c.args.modulus.value c.args.summand.now.of c.args.of.degree) c.in_default.is h)

pub returns-then-later-of-clause-leading : goal.returns-then-later-of-clause-leading
returns-then-later-of-clause-leading c =
    let m = c.args.modulus.value in
    let n = c.in-Some.number in
    let small : n < m = subst (λ o. IfSome o (λ x. x < m)) c.in-Some.is c.requires.of_residue in
    let signed : c.if-summand.signed ≡ (if c.args.summand.now.minus then m - n else n) % m =
    elim c.if-summand.branch [
      | then-summand w ↦ w.signed-is ∙ w.neg-signed.ensures
          ∙ ap (λ b. (if b then m - n else n) % m) (sym w.if-summand.true)
      | else-summand w ↦ w.signed-is ∙ sym (mod-eq_of_lt small)
          ∙ ap (λ b. (if b then m - n else n) % m) (sym w.if-summand.false)
    ] in
    λ rest h k. summand-alone m c.args.modulus.low c.args.summand.now rest c.args.of.degree c.args.later.degree
    c.args.later.number n c.if-summand.signed
    (subst (IsLeading m c.args.summand.now.of c.args.of.degree) c.in-Some.is h) k c.if-later-of.true signed

pub returns-in-Some-number-clause-leading : goal.returns-in-Some-number-clause-leading
returns-in-Some-number-clause-leading c =
    let m = c.args.modulus.value in
    let n = c.in-Some.number in
    let small : n < m = subst (λ o. IfSome o (λ x. x < m)) c.in-Some.is c.requires.of_residue in
    let signed : c.if-summand.signed ≡ (if c.args.summand.now.minus then m - n else n) % m =
    elim c.if-summand.branch [
      | then-summand w ↦ w.signed-is ∙ w.neg-signed.ensures
          ∙ ap (λ b. (if b then m - n else n) % m) (sym w.if-summand.true)
      | else-summand w ↦ w.signed-is ∙ sym (mod-eq_of_lt small)
          ∙ ap (λ b. (if b then m - n else n) % m) (sym w.if-summand.false)
    ] in
    λ rest h k. summand-added m c.args.modulus.low c.args.summand.now rest c.args.of.degree c.args.later.degree n
    c.in-Some-number.others c.if-summand.signed c.add.result
    (subst (IsLeading m c.args.summand.now.of c.args.of.degree) c.in-Some.is h)
    (subst (IsLeading m (Sum rest) c.args.later.degree) c.in-Some-number.is k) (omega arith) signed c.add.ensures

pub returns-in-None-clause-leading : goal.returns-in-None-clause-leading
returns-in-None-clause-leading c = λ rest h k. summand-not_added c.args.modulus.value c.args.modulus.low
    c.args.summand.now rest c.args.of.degree c.args.later.degree c.args.of.number h
    (subst (IsLeading c.args.modulus.value (Sum rest) c.args.later.degree) c.in-None.is k) (omega arith)
