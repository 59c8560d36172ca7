use Rattle.std.proofs.Common.{Err, sym, ◌∙◌, ap, arith}
use Rattle.std.specs.FinMap.{entries}
use Rattle.parts.specs.PartValue.{PartValue}
use Rattle.parts.specs.RowsOfParts.{parts_of, nothing}
use Rattle.parts.proofs.RowsRead.{part_read}
use Rattle.stages.proofs.FirstRows.{none_lowest, has_inverse}
use Rattle.stages.proofs.Splitting.{shares}
use Rattle.stages.proofs.splitter.begin.Goals as goal

pub bounds-row-power : goal.bounds-row-power
bounds-row-power c =
    let lowest = (c.begin.ensures.not_prepared c.in-Err-NotPrepared.power).0
    (c.in-Err-NotPrepared.is ∙ ap Err c.in-Err-NotPrepared.field-0-is) in
    let below = lowest.below in
    omega arith

pub unreachable-requires : goal.unreachable-requires
unreachable-requires c =
    let lowest = (c.begin.ensures.not_prepared c.in-Err-NotPrepared.power).0
    (c.in-Err-NotPrepared.is ∙ ap Err c.in-Err-NotPrepared.field-0-is) in
    let below = lowest.below in
    let count = shares c.args.row.now in
    let part = part_read c.args.row.now c.in-Err-NotPrepared.power c.index-row-power.result (omega arith)
    c.index-row-power.is in
    none_lowest c.args.ring c.args.times (parts_of c.args.row.now) c.in-Err-NotPrepared.power c.requires.can lowest
    c.terms-terms.result.now
    (c.terms-terms.ensures.entries ∙ ap (λ (p : PartValue). entries p.map) (c.deref.ensures ∙ sym part))
    c.terms-terms.ensures.order (c.requires.row.parts c.in-Err-NotPrepared.power nothing (omega arith))

pub unreachable-requires-in-Err-NotAUnit : goal.unreachable-requires-in-Err-NotAUnit
unreachable-requires-in-Err-NotAUnit c = has_inverse c.args.ring c.args.times (parts_of c.args.row.now)
    c.in-Err-NotAUnit.field-0-0 c.requires.can
    ((c.begin.ensures.not_a_unit c.in-Err-NotAUnit.field-0-0).0
    (c.in-Err-NotAUnit.is ∙ ap Err c.in-Err-NotAUnit.field-0-is))
