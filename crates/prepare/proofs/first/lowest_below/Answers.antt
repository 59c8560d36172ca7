use Rattle.std.proofs.Common.{◌≡◌, ◌<◌, length, sym, ◌∙◌, ap, arith}
use borrow.Author.Count.{below_more}
use Rattle.std.specs.Arc.{arc_value}
use Rattle.std.specs.FinMap.{empty}
use Rattle.parts.specs.PartValue.{PartValue}
use Rattle.parts.specs.RowsOfParts.{parts_of, part_in}
use Rattle.parts.proofs.RowsRead.{part_read}
use Rattle.prepare.proofs.first.lowest_below.Goals as goal

pub loop-power-preserved : goal.loop-power-preserved
loop-power-preserved c =
    let within : c.loop-power.power < length c.args.row.now = omega (arith, c.requires) in
    let zero : (arc_value c.index-row-power.result).map ≡ empty = ap (λ (p : PartValue). p.map) (sym c.deref.ensures)
    ∙ c.is_zero.ensures.0 c.if-not-is_zero.false in
    below_more (λ i. (part_in (parts_of c.args.row.now) i).map ≡ empty) c.loop-power.power c.loop-power.invariant
    (ap (λ (p : PartValue). p.map) (part_read c.args.row.now c.loop-power.power c.index-row-power.result within
    c.index-row-power.is) ∙ zero)
