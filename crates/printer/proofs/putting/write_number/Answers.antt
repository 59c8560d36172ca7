use Rattle.std.proofs.Common.{[], sym}
use Rattle.std.proofs.lemmas.List.{append-nil}
use Rattle.std.specs.Prelude.{decimal}
use Rattle.printer.proofs.Pieces.{start, regroup, lay, step, fault, done}
use Rattle.printer.proofs.putting.write_number.Goals as goal

pub returns-in_err-make_room : goal.returns-in_err-make_room
returns-in_err-make_room g c = fault (decimal c.args.number) _ c.in_err-make_room.ensures.sent
    (start _ _ (decimal c.args.number)) c.from_residual.ensures.0

pub returns : goal.returns
returns g c = done _ (lay (decimal c.args.number) [] c.append_number.ensures.text (regroup (step (decimal c.args.number)
    c.in_ok-make_room.ensures.sent (start _ _ (decimal c.args.number))) (sym (append-nil (decimal c.args.number)))))
