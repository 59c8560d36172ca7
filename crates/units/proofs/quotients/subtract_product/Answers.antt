use Rattle.std.proofs.Common.{inl, inr}
use Rattle.units.proofs.Added.{changes-nothing, no_product, no_negative, changes-minus}
use Rattle.units.proofs.quotients.subtract_product.Goals as goal
use Rattle.units.proofs.quotients.subtract_product.Goals.{
  then-is_zero-via-then-is_zero,
  then-is_zero-via-else-is_zero+then-is_zero-2,
}

pub returns-then-is_zero : goal.returns-then-is_zero
returns-then-is_zero c = changes-nothing c.args.sum.now.ring c.args.sum.now _
    (no_negative c.args.sum.now.ring _ (no_product c.args.sum.now.ring c.args.f.now c.args.g.now
    (elim c.then-is_zero.branch [
      | then-is_zero-via-then-is_zero w ↦ inl (c.is_zero.ensures.0 w.if-is_zero.true)
      | then-is_zero-via-else-is_zero+then-is_zero-2 w ↦
          inr (w.is_zero-else-is_zero.ensures.0 w.if-is_zero-2.true)
    ])))

pub returns : goal.returns
returns c = changes-minus c.args.sum.now c.add_product.new.self c.args.f.now c.args.g.now
    c.in_ok-add_product.ensures.ok
