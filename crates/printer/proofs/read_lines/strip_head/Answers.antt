use Rattle.printer.proofs.ReadMarks.{head_is, gives_along, gives_shorter}
use Rattle.printer.proofs.read_lines.strip_head.Goals as goal

pub returns-clause-shorter : goal.returns-clause-shorter
returns-clause-shorter c =
    gives_shorter _ c.args.number c.args.root c.args.bytes.now c.head.result
    (gives_along _ _ _ _ (head_is c.args.number c.args.root c.args.bytes.now) c.head.ensures)

pub returns-clause-stripped : goal.returns-clause-stripped
returns-clause-stripped c = gives_along _ _ _ _ (head_is c.args.number c.args.root c.args.bytes.now) c.head.ensures
