-- The pieces of a text as the call gives them, in another grouping.
use Rattle.std.proofs.Common.{sym, ◌∙◌, ap, subst}
use Rattle.std.specs.Fmt.{HasWritten}
use Rattle.std.specs.Prelude.{codes, decimal}
use Rattle.intake.specs.InputErrors.{error_text}
use Rattle.intake.proofs.Pieces.{six_pieces}
use Rattle.intake.proofs.free_error.FreeErrorDisplay.fmt.Goals as goal

pub returns-in-NotAUnit-clause-writes : goal.returns-in-NotAUnit-clause-writes
returns-in-NotAUnit-clause-writes g c = λ plain ok. subst
    (λ l. HasWritten {W = g.row.W.Denot} g.W.Write.write_str_gives c.args.f.now l c.write-in-NotAUnit.new.self)
    (six_pieces (codes "division ") (decimal c.in-NotAUnit.division) (codes ": ") (decimal c.in-NotAUnit.value)
    (codes " has no inverse, gcd ") (decimal c.in-NotAUnit.gcd)
    ∙ ap error_text (sym c.in-NotAUnit.is)) (c.write-in-NotAUnit.ensures.writes plain ok)
