use Rattle.std.proofs.Common.{◌≡◌, ◌∙◌, length, arith}
use Rattle.std.specs.Ordering.{ordering_then}
use Rattle.ps_model.proofs.PlainOrder.{order_is}
use Rattle.printer.proofs.read_polynomials.by_key.Goals as goal

pub returns : goal.returns
returns c =
    let p : length c.args.t.now.powers ≡ 8 = omega arith in
    let q : length c.args.u.now.powers ≡ 8 = omega arith in
    c.then.ensures ∙ (λ i. ordering_then (c.cmp.ensures i) (c.cmp-2.ensures i))
    ∙ order_is c.args.t.now c.args.u.now p q
