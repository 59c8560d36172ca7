use Rattle.std.proofs.Common.{take}
use Rattle.intake.specs.Slots.{AddsEach, quotients_of}
use Rattle.intake.proofs.slots.quotients.Given as goal

abbrev pub invariant-loop-id : goal.invariant-loop-id
invariant-loop-id l = AddsEach (quotients_of (take l.id-index l.a) l.divisor) l.fn.graph l.graph l.slots.items
