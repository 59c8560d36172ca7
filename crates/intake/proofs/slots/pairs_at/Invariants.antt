use Rattle.std.proofs.Common.{◌≡◌}
use Rattle.intake.specs.Slots.{pairs_to}
use Rattle.intake.proofs.slots.pairs_at.Given as goal

abbrev pub invariant-loop-i : goal.invariant-loop-i
invariant-loop-i l = l.of.items ≡ pairs_to l.a l.b l.j l.i
