-- The pieces of a text as the call gives them, in another grouping.
use Rattle.std.proofs.Common.{◌≡◌, ◌∙◌, ℕ, List, ◌++◌, append_assoc, ap, sym, subst}
use Rattle.std.specs.Fmt.{HasWritten}
use Rattle.std.specs.Prelude.{codes, decimal}
use Rattle.script.specs.Refusals.{refusal_text}
use Rattle.script.proofs.refusal.RefusalDisplay.fmt.Goals as goal

five_pieces : (a b c d e : List ℕ) → a ++ (b ++ (c ++ (d ++ e))) ≡ a ++ b ++ c ++ d ++ e
five_pieces a b c d e = simp append_assoc

pub returns-in-TooManyMonomials-clause-writes : goal.returns-in-TooManyMonomials-clause-writes
returns-in-TooManyMonomials-clause-writes g c = λ plain ok. subst
    (λ l. HasWritten {W = g.row.W.Denot} g.W.Write.write_str_gives c.args.f.now l c.write-in-TooManyMonomials.new.self)
    (five_pieces (codes "precision ") (decimal c.in-TooManyMonomials.precision) (codes " needs ")
    (decimal c.in-TooManyMonomials.count) (codes " monomials, limit 32768")
    ∙ ap refusal_text (sym c.in-TooManyMonomials.is)) (c.write-in-TooManyMonomials.ensures.writes plain ok)
