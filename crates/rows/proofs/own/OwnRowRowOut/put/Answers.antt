use Rattle.rows.proofs.Pushed.{values-pushed}
use Rattle.rows.proofs.own.OwnRowRowOut.put.Goals as goal

pub invariant_of-self-clause-fit : goal.invariant_of-self-clause-fit
invariant_of-self-clause-fit g c =
    let row = c.args.self.now in
    rw c.push_reserved.ensures.items
    (values-pushed (g.T.RowItem.fits row.title) row.items.items c.args.item row.fit c.requires.fit)
