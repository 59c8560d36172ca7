use Rattle.intake.specs.Slots.{AddsEach, sums_of}
use Rattle.intake.proofs.slots.sums.Given as goal

abbrev pub invariant-loop-j : goal.invariant-loop-j
invariant-loop-j l = AddsEach (sums_of l.addends l.j) l.fn.graph l.graph l.slots.items
