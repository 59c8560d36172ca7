use Rattle.std.proofs.Common.{◌≡◌, sym, ◌∙◌, subst, ap}
use Rattle.left_right.specs.Sides.{view}
use Rattle.rows.specs.Rule.{Grows, published_row, sees_all}
use Rattle.rows.specs.Pending.{pending}
use Rattle.rows.proofs.RowSteps.{sees, fold_with_item}
use Rattle.rows.proofs.Published.{both_on_ok, on_err_of}
use Rattle.rows.proofs.writer.publish_copy.Goals as goal

pub publish_as-requires : goal.publish_as-requires
publish_as-requires g c next is =
    let w = c.args.writer in
    let row = published_row w.desk.shown.value in
    sees g.T.RowItem.fits w.desk.place.id (view w.desk.place) w.desk.shown.value next
    (λ views h. subst (λ z. Grows g.T.RowItem.fits row z) (sym (is ∙ fold_with_item row (pending w))) c.requires)

pub returns-clause-row : goal.returns-clause-row
returns-clause-row g c =
    let w = c.args.writer in
    both_on_ok c.publish_as.result.1 _ _ _ _ _ c.publish_as.ensures.values c.publish_as.ensures.rule
    (λ v r. v.0 ∙ fold_with_item (published_row w.desk.shown.value) (pending w))

pub returns-clause-none : goal.returns-clause-none
returns-clause-none g c = both_on_ok c.publish_as.result.1 _ _ _ _ _ c.publish_as.ensures.values
    c.publish_as.ensures.rule (λ v r. v.1)

pub returns-clause-seen : goal.returns-clause-seen
returns-clause-seen g c =
    let w = c.args.writer in
    both_on_ok c.publish_as.result.1 _ _ _ _ _ c.publish_as.ensures.values c.publish_as.ensures.rule
    (λ v r. r.all_seen ∙ ap sees_all (v.0 ∙ fold_with_item (published_row w.desk.shown.value) (pending w)))

pub returns-clause-same_row : goal.returns-clause-same_row
returns-clause-same_row g c = on_err_of c.publish_as.result.1 _ _ _ c.publish_as.ensures.values (λ e. e.0)

pub returns-clause-same_pending : goal.returns-clause-same_pending
returns-clause-same_pending g c = on_err_of c.publish_as.result.1 _ _ _ c.publish_as.ensures.values (λ e. e.1)
