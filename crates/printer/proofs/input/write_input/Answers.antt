use Rattle.printer.proofs.Pieces.{failed, whole}
use Rattle.printer.proofs.input.write_input.Goals as goal

pub returns-in_err-put_input : goal.returns-in_err-put_input
returns-in_err-put_input g c = failed _ c.new-buffer.ensures c.in_err-put_input.ensures c.from_residual.ensures.0

pub returns : goal.returns
returns g c = whole _ c.new-buffer.ensures c.in_ok-put_input.ensures c.flush.ensures.wrote
