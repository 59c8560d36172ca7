use Rattle.parts.proofs.Overlaps.{gains_none, gains_products, pieces_dot, apart}
use Rattle.parts.proofs.contiguous.add_rows_product.Goals as goal

pub returns-then-from-to : goal.returns-then-from-to
returns-then-from-to c = gains_products c.args.sum.now c.add.new.self _ _ _ c.add.ensures
    (pieces_dot c.args.a.now c.args.w.now c.args.p c.overlap-from.result.0 c.overlap-from.result.1
    c.overlap-from.ensures c.if-from-to.true)

pub returns-else-from-to : goal.returns-else-from-to
returns-else-from-to c = gains_none c.args.sum.now _
    (apart c.args.a.now c.args.w.now c.args.p c.overlap-from.result.0 c.overlap-from.result.1
    c.overlap-from.ensures c.if-from-to.false)
