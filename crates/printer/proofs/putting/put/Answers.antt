use Rattle.std.proofs.Common.{[], sym}
use Rattle.std.proofs.lemmas.List.{append-nil}
use Rattle.printer.proofs.Pieces.{start, regroup, lay, step, fault, done}
use Rattle.printer.proofs.putting.put.Goals as goal

pub returns-in_err-make_room : goal.returns-in_err-make_room
returns-in_err-make_room g c = fault c.args.piece.now _ c.in_err-make_room.ensures.sent
    (start _ _ c.args.piece.now) c.from_residual.ensures.0

pub returns : goal.returns
returns g c =
    let piece = c.args.piece.now in
    done _ (lay piece [] c.append.ensures (regroup (step piece c.in_ok-make_room.ensures.sent (start _ _ piece))
    (sym (append-nil piece))))
