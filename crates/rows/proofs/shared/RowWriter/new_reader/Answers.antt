use Rattle.std.proofs.Common.{ap}
use Rattle.left_right.specs.Sides.{view}
use Rattle.rows.specs.declared.copies.RowView.{RowView}
use Rattle.rows.proofs.RowSteps.{forks, merges}
use Rattle.rows.proofs.shared.RowWriter.new_reader.Goals as goal

pub tell-requires : goal.tell-requires
tell-requires g c =
    let place = c.args.self.now.writer.desk.place in
    forks g.T.RowItem.fits place.id (view place)

pub learn-requires-clause-rule : goal.learn-requires-clause-rule
learn-requires-clause-rule g c =
    let place = c.copy_reader-reader.result.place in
    merges g.T.RowItem.fits place.id (view place) c.tell.result.id (view c.tell.result)
    (ap (λ (v : RowView _ _). v.seen) c.copy_reader-reader.ensures.view)
