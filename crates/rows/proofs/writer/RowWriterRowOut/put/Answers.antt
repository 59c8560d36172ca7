use Rattle.std.proofs.Common.{◌∙◌, ap, sym, List, drop, le_trans}
use Rattle.std.specs.Arc.{arc_value}
use Rattle.rows.proofs.Pushed.{values-pushed}
use Rattle.rows.proofs.Published.{take_pushed}
use Rattle.rows.proofs.writer.RowWriterRowOut.put.Goals as goal

pub invariant_of-self-clause-fit : goal.invariant_of-self-clause-fit
invariant_of-self-clause-fit g c =
    let w = c.args.self.now in
    rw c.push_reserved.ensures.items
    (values-pushed (g.T.RowItem.fits (arc_value w.title)) w.items.items c.args.item w.fit c.requires.fit)

pub invariant_of-self-clause-prefix : goal.invariant_of-self-clause-prefix
invariant_of-self-clause-prefix g c =
    let w = c.args.self.now in
    rw c.push_reserved.ensures.items
    (w.prefix ∙ sym (take_pushed w.items.items c.args.item w.published (le_trans w.ahead w.there)))

pub invariant_of-self-clause-pending : goal.invariant_of-self-clause-pending
invariant_of-self-clause-pending g c =
    let w = c.args.self.now in
    rw c.push_reserved.ensures.items
    (w.pending ∙ ap (λ (l : List _). drop w.published l)
    (sym (take_pushed w.items.items c.args.item w.handed w.there)))
