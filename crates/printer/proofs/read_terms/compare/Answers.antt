use Rattle.std.proofs.Common.{◌≡◌, ◌∙◌, length, arith}
use Rattle.std.specs.Ordering.{ordering_then}
use Rattle.ps_model.proofs.PlainOrder.{order_is}
use Rattle.printer.proofs.ReadDegrees.{graded_order}
use Rattle.printer.proofs.read_terms.compare.Goals as goal

pub returns : goal.returns
returns c = λ ws e e'.
    let p : length c.args.t.now.powers ≡ 8 = omega arith in
    let q : length c.args.u.now.powers ≡ 8 = omega arith in
    let keys = c.then-keys.ensures ∙ (λ i. ordering_then (c.cmp.ensures i) (c.cmp-2.ensures i))
    ∙ order_is c.args.t.now c.args.u.now p q in
    c.then.ensures ∙ (λ i. ordering_then (c.cmp-3.ensures i) (keys i))
    ∙ graded_order ws c.args.d c.args.e c.args.t.now c.args.u.now e e'
