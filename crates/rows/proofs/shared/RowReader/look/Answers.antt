use Rattle.std.proofs.Common.{◌≡◌, ap, sym, subst, List}
use Rattle.left_right.specs.Sides.{view}
use Rattle.rows.specs.Prefixes.{IsPrefix}
use Rattle.rows.specs.Rule.{published_row}
use Rattle.rows.specs.declared.copies.RowView.{RowView}
use Rattle.rows.proofs.RowSteps.{enters, prefix_take_trans}
use Rattle.rows.proofs.shared.RowReader.look.Goals as goal

pub enter_as-requires : goal.enter_as-requires
enter_as-requires g c x =
    enters g.T.RowItem.fits c.args.self.reader.place.id (view c.args.self.reader.place) x

pub returns-else-len-told-clause-later : goal.returns-else-len-told-clause-later
returns-else-len-told-clause-later g c =
    let sees = c.in-Ok.ensures.1 in
    let all : (view c.in-Ok.reading.place).seen ≡ (published_row c.in-Ok.reading.part.value).items =
    ap (λ (v : RowView _ _). v.seen) sees.all_seen in
    prefix_take_trans c.args.self.seen (view c.args.self.reader.place).seen (view c.in-Ok.reading.place).seen
    (subst (λ (l : List _). IsPrefix (view c.args.self.reader.place).seen l) (sym all) sees.later)
