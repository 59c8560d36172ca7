use Rattle.std.proofs.Common.{◌≡◌, ap, sym, ◌∙◌}
use Rattle.rows.specs.Fits.{values}
use Rattle.rows.specs.Rule.{published_row}
use Rattle.rows.specs.Pending.{pending}
use Rattle.rows.specs.declared.copies.PublishedRow.{PublishedRow}
use Rattle.rows.proofs.Published.{was_ok, all_published, drop-take-nil}
use Rattle.rows.proofs.shared.RowWriter.publish_handed.Goals as goal

pub invariant_of-self-2-clause-prefix : goal.invariant_of-self-2-clause-prefix
invariant_of-self-2-clause-prefix g c =
    let w = c.args.self.now in
    let row = was_ok c.publish_in_place.result _ c.if-is_err.ensures.value c.publish_in_place.ensures.row in
    ap (λ (s : PublishedRow _ _). s.items) row
    ∙ all_published w.items.items (published_row w.writer.desk.shown.value).items (values (pending w.writer))
    w.published w.handed w.prefix w.pending w.ahead

pub invariant_of-self-2-clause-pending : goal.invariant_of-self-2-clause-pending
invariant_of-self-2-clause-pending g c =
    let w = c.args.self.now in
    let none = was_ok c.publish_in_place.result _ c.if-is_err.ensures.value c.publish_in_place.ensures.none in
    ap values none ∙ sym (drop-take-nil (values w.items.items) w.handed)
