use Rattle.std.proofs.Common.{length}
use Rattle.session.specs.SeenBy.{seen_by}
use Rattle.session.proofs.Known.{IsLeast}
use Rattle.session.proofs.seen_rows.SeenRows.known_to.Given as goal

abbrev pub invariant-loop-i : goal.invariant-loop-i
invariant-loop-i l = IsLeast (length (seen_by l.self).lead) (seen_by l.self).stages l.i l.least
