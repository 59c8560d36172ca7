use Rattle.std.proofs.Common.{ℕ, List, ◌++◌, append_assoc}
use Rattle.std.specs.Prelude.{codes, decimal}
use Rattle.ps_model.specs.BlockText.{newline}
use Rattle.printer.proofs.Pieces.{start, regroup, step, fault, last}
use Rattle.session.proofs.Pieces.{held_none, wrote_all}
use Rattle.session.proofs.streams.write_first_line.Goals as goal

abbrev whole : ℕ → List ℕ
whole d = codes "stream " ++ decimal d ++ newline

pub returns-in_err-put : goal.returns-in_err-put
returns-in_err-put g c = wrote_all _ (fault (decimal c.args.d ++ newline) _ (held_none c.in_err-put.ensures)
    (regroup (start _ _ (whole c.args.d)) (append_assoc (codes "stream ") (decimal c.args.d) newline))
    c.from_residual.ensures.0)

pub returns-in_err-write_number : goal.returns-in_err-write_number
returns-in_err-write_number g c = wrote_all _ (fault newline _ (held_none c.in_err-write_number.ensures)
    (step (decimal c.args.d ++ newline) (held_none c.in_ok-put.ensures)
    (regroup (start _ _ (whole c.args.d)) (append_assoc (codes "stream ") (decimal c.args.d) newline)))
    c.from_residual-in_err-write_number.ensures.0)

pub returns : goal.returns
returns g c = wrote_all _ (last _ (held_none c.put-2.ensures) (step newline (held_none c.in_ok-write_number.ensures)
    (step (decimal c.args.d ++ newline) (held_none c.in_ok-put.ensures)
    (regroup (start _ _ (whole c.args.d)) (append_assoc (codes "stream ") (decimal c.args.d) newline)))))
