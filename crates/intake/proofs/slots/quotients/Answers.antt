use Rattle.std.proofs.Common.{take}
use Rattle.intake.specs.Slots.{quotients_of}
use Rattle.intake.proofs.SlotSteps.{quotients_next}
use Rattle.intake.proofs.DivisorUnits.{never_refused}
use Rattle.intake.proofs.slots.quotients.Goals as goal

pub made-requires-clause-units : goal.made-requires-clause-units
made-requires-clause-units c = λ value gcd refused. never_refused
    (quotients_of (take c.loop-id.id-index c.args.a.now) c.args.divisor) c.args.graph.now c.loop-id.graph
    c.loop-id.slots.items c.args.divisor value gcd c.loop-id.invariant c.requires.unit
    ((c.quotient.ensures.not_a_unit value gcd).0 refused) (c.quotient.ensures.divisor value gcd 0 refused)

pub loop-id-preserved : goal.loop-id-preserved
loop-id-preserved c = quotients_next c.args.a.now c.args.divisor c.loop-id.id-index c.args.graph.now c.loop-id.graph
    c.quotient.new.self c.loop-id.slots.items c.push.new.self.items (record { index = 0 }) c.in_ok-made.field-0
    c.quotient.result c.loop-id.invariant c.loop-id-test.true c.quotient.ensures.ok c.in_ok-made.ensures
    c.in_ok-push.ensures.items
