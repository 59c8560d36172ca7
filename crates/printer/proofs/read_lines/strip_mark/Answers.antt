use Rattle.printer.proofs.ReadMarks.{mark_is, gives_along}
use Rattle.printer.proofs.read_lines.strip_mark.Goals as goal

pub returns : goal.returns
returns c = gives_along _ _ _ _ (mark_is c.args.y c.args.bytes.now) c.mark.ensures
