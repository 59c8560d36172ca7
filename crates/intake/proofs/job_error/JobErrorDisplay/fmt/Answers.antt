-- The pieces of a text as the call gives them, in another grouping.
use Rattle.std.proofs.Common.{sym, ◌∙◌, ap, subst}
use Rattle.std.specs.Fmt.{HasWritten}
use Rattle.std.specs.Prelude.{codes, decimal}
use Rattle.intake.specs.JobErrors.{job_error_text}
use Rattle.intake.proofs.Pieces.{four_pieces, six_pieces, eight_pieces}
use Rattle.intake.proofs.job_error.JobErrorDisplay.fmt.Goals as goal

pub returns-in-NotAUnit-clause-writes : goal.returns-in-NotAUnit-clause-writes
returns-in-NotAUnit-clause-writes g c = λ plain ok. subst
    (λ l. HasWritten {W = g.row.W.Denot} g.W.Write.write_str_gives c.args.f.now l c.write-in-NotAUnit.new.self)
    (six_pieces (codes "division ") (decimal c.in-NotAUnit.division) (codes ": ") (decimal c.in-NotAUnit.value)
    (codes " has no inverse, gcd ") (decimal c.in-NotAUnit.gcd)
    ∙ ap job_error_text (sym c.in-NotAUnit.is)) (c.write-in-NotAUnit.ensures.writes plain ok)

pub returns-in-LeadNotAUnit-clause-writes : goal.returns-in-LeadNotAUnit-clause-writes
returns-in-LeadNotAUnit-clause-writes g c = λ plain ok. subst
    (λ l. HasWritten {W = g.row.W.Denot} g.W.Write.write_str_gives c.args.f.now l c.write-in-LeadNotAUnit.new.self)
    (four_pieces (codes "leading coefficient ") (decimal c.in-LeadNotAUnit.value)
    (codes " has no inverse, gcd ") (decimal c.in-LeadNotAUnit.gcd)
    ∙ ap job_error_text (sym c.in-LeadNotAUnit.is)) (c.write-in-LeadNotAUnit.ensures.writes plain ok)

pub returns-in-DegreeMismatch-clause-writes : goal.returns-in-DegreeMismatch-clause-writes
returns-in-DegreeMismatch-clause-writes g c = λ plain ok. subst
    (λ l. HasWritten {W = g.row.W.Denot} g.W.Write.write_str_gives c.args.f.now l c.write-in-DegreeMismatch.new.self)
    (four_pieces (codes "degree ") (decimal c.in-DegreeMismatch.degree)
    (codes ", roots give ") (decimal c.in-DegreeMismatch.sum)
    ∙ ap job_error_text (sym c.in-DegreeMismatch.is)) (c.write-in-DegreeMismatch.ensures.writes plain ok)

pub returns-in-NotApart-clause-writes : goal.returns-in-NotApart-clause-writes
returns-in-NotApart-clause-writes g c = λ plain ok. subst
    (λ l. HasWritten {W = g.row.W.Denot} g.W.Write.write_str_gives c.args.f.now l c.write-in-NotApart.new.self)
    (eight_pieces (codes "roots ") (decimal c.in-NotApart.first) (codes " and ") (decimal c.in-NotApart.second)
    (codes ": difference ") (decimal c.in-NotApart.difference)
    (codes " has no inverse, gcd ") (decimal c.in-NotApart.gcd)
    ∙ ap job_error_text (sym c.in-NotApart.is)) (c.write-in-NotApart.ensures.writes plain ok)
