use Rattle.intake.proofs.PowerSlots.{PowerBuilt}
use Rattle.intake.proofs.slots.power.Given as goal

abbrev pub invariant-loop : goal.invariant-loop
invariant-loop l = PowerBuilt l.fn.graph l.graph l.base l.slots.items l.counter
