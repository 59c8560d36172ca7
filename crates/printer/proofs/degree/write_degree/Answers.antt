use Rattle.printer.proofs.Pieces.{failed, whole}
use Rattle.printer.proofs.degree.write_degree.Goals as goal

pub returns-in_err-put_degree : goal.returns-in_err-put_degree
returns-in_err-put_degree g c = failed _ c.new-buffer.ensures c.in_err-put_degree.ensures c.from_residual.ensures.0

pub returns : goal.returns
returns g c = whole _ c.new-buffer.ensures c.in_ok-put_degree.ensures c.flush.ensures.wrote
