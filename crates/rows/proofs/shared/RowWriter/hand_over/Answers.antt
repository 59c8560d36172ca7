use Rattle.std.proofs.Common.{◌≡◌, ◌∙◌, ap, ◌++◌, ◌∷◌, []}
use Rattle.rows.specs.Fits.{values}
use Rattle.rows.specs.Pending.{pending}
use Rattle.rows.proofs.Published.{pending_more, ok_of}
use Rattle.rows.proofs.shared.RowWriter.hand_over.Goals as goal

pub invariant_of-self-2-clause-pending : goal.invariant_of-self-2-clause-pending
invariant_of-self-2-clause-pending g c =
    let w = c.args.self.now in
    let longer : pending c.append.new.self ≡ pending w.writer ++ c.in_ok-item.item ∷ [] =
    ok_of c.append.result _ _ c.if-is_err.ensures.value c.append.ensures.pending in
    ap values longer
    ∙ pending_more (pending w.writer) w.items.items c.in_ok-item.item c.index.result.now w.published w.handed w.pending
    w.ahead c.requires c.index.ensures c.in_ok-item.ensures
