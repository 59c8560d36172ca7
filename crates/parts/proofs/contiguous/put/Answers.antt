use Rattle.parts.proofs.RowEntries.{put_number_is, put_number_kept, has_row, has_place}
use Rattle.parts.proofs.contiguous.put.Goals as goal

pub returns-clause-puts : goal.returns-clause-puts
returns-clause-puts c = put_number_is c.args.rows.now.items c.args.f c.index_mut.result.now c.put_number.new.row
    (has_row c.args.rows.now.items c.args.f c.args.p c.requires) c.index_mut.ensures.value c.args.p c.args.c
    (has_place c.args.rows.now.items c.args.f c.args.p c.index_mut.result.now c.requires c.index_mut.ensures.value)
    c.put_number.ensures

pub returns-clause-kept : goal.returns-clause-kept
returns-clause-kept c = put_number_kept c.args.rows.now.items c.args.f c.index_mut.result.now c.put_number.new.row
    (has_row c.args.rows.now.items c.args.f c.args.p c.requires) c.index_mut.ensures.value c.args.p c.args.c
    c.put_number.ensures
