use Rattle.std.proofs.Common.{◌++◌}
use Rattle.std.specs.Prelude.{decimal}
use Rattle.printer.proofs.Pieces.{start, step, fault, last}
use Rattle.printer.proofs.putting.write_numbered.Goals as goal

pub returns-in_err-put : goal.returns-in_err-put
returns-in_err-put g c = fault (decimal c.args.number) _ c.in_err-put.ensures
    (start _ _ (c.args.piece.now ++ decimal c.args.number)) c.from_residual.ensures.0

pub returns : goal.returns
returns g c = last _ c.write_number.ensures (step (decimal c.args.number) c.in_ok-put.ensures
    (start _ _ (c.args.piece.now ++ decimal c.args.number)))
