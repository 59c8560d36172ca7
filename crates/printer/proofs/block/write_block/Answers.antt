use Rattle.printer.proofs.Pieces.{failed, whole}
use Rattle.printer.proofs.block.write_block.Goals as goal

pub returns-in_err-put_block : goal.returns-in_err-put_block
returns-in_err-put_block g c = failed _ c.new-buffer.ensures c.in_err-put_block.ensures c.from_residual.ensures.0

pub returns : goal.returns
returns g c = whole _ c.new-buffer.ensures c.in_ok-put_block.ensures c.flush.ensures.wrote
