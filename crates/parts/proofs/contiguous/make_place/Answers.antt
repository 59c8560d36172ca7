use Rattle.std.proofs.Common.{set}
use Rattle.std.proofs.lemmas.Result.{IfOk-weaker}
use Rattle.parts.specs.SeriesRows.{rows_in}
use Rattle.parts.proofs.RowEntries.{made_same, made_kept, made_place, same_through, kept_through}
use Rattle.parts.proofs.contiguous.make_place.Goals as goal

pub returns-clause-same : goal.returns-clause-same
returns-clause-same c = same_through (rows_in c.args.rows.now.items) (rows_in c.add_rows.new.rows.items)
    (rows_in (set c.add_rows.new.rows.items c.args.f c.lengthen.new.row)) c.add_rows.ensures.same
    (made_same c.add_rows.new.rows.items c.args.f c.index_mut.result.now c.lengthen.new.row
    c.in_ok-add_rows.ensures.row c.index_mut.ensures.value c.lengthen.ensures.same)

pub returns-clause-kept : goal.returns-clause-kept
returns-clause-kept c = kept_through (rows_in c.args.rows.now.items) (rows_in c.add_rows.new.rows.items)
    (rows_in (set c.add_rows.new.rows.items c.args.f c.lengthen.new.row)) c.add_rows.ensures.kept
    (made_kept c.add_rows.new.rows.items c.args.f c.index_mut.result.now c.lengthen.new.row
    c.in_ok-add_rows.ensures.row c.index_mut.ensures.value c.lengthen.ensures.longer)

pub returns-clause-place : goal.returns-clause-place
returns-clause-place c = IfOk-weaker c.lengthen.result _ _ (λ _ lt. made_place c.add_rows.new.rows.items c.args.f
    c.index_mut.result.now c.lengthen.new.row c.in_ok-add_rows.ensures.row c.index_mut.ensures.value c.args.p lt)
    c.lengthen.ensures.place
