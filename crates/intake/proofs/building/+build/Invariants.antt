use Rattle.std.proofs.Common.{take}
use Rattle.intake.proofs.Built.{SumBuilt, ProductBuilt}
use Rattle.intake.proofs.building.+build.Given as goal

abbrev pub invariant-loop-summand : goal.invariant-loop-summand
invariant-loop-summand l = SumBuilt l.fn.graph l.graph (take l.summand-index l.summand-items) l.addends.items l.count

abbrev pub invariant-loop-factor : goal.invariant-loop-factor
invariant-loop-factor l = ProductBuilt l.fn.graph l.graph (take l.factor-index l.factor-items) l.slots.items
