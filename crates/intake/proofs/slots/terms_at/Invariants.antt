use Rattle.std.proofs.Common.{◌≡◌, ◌++◌, drop}
use Rattle.intake.specs.Slots.{terms_of}
use Rattle.intake.proofs.slots.terms_at.Given as goal

abbrev pub invariant-loop-addend : goal.invariant-loop-addend
invariant-loop-addend l = l.of.items ++ terms_of (drop l.addend-index l.addends) l.j ≡ terms_of l.addends l.j
