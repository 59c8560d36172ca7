use Rattle.std.proofs.Common.{get_or, arith}
use Rattle.std.proofs.lemmas.Result.{IfOk-weaker}
use Rattle.intake.proofs.Multiplied.{alone, divided_slots, divided_mean, multiplied_slots, multiplied_mean}
use Rattle.intake.proofs.slots.multiplied.Goals as goal

pub quotients-requires-clause-ids : goal.quotients-requires-clause-ids
quotients-requires-clause-ids c =
    (c.requires.ids.0, c.requires.ids.1 0 (record { index = 0 }) c.requires.some.1)

pub quotients-requires-clause-unit : goal.quotients-requires-clause-unit
quotients-requires-clause-unit c = c.requires.unit (get_or c.args.b.now 0 (record { index = 0 }))
    (alone c.args.b.now (record { index = 0 }) (c.requires.series c.if-divide.true)) c.if-divide.true

pub quotients-requires-clause-room : goal.quotients-requires-clause-room
quotients-requires-clause-room c =
    let single = c.requires.series c.if-divide.true in
    omega (arith, single)

pub returns-then-divide-clause-slots : goal.returns-then-divide-clause-slots
returns-then-divide-clause-slots c = IfOk-weaker c.quotients.result _ _
    (λ ids each. divided_slots c.args.a.now c.args.b.now c.args.graph.now c.quotients.new.graph ids.items
    c.requires.some.0 (record { index = 0 }) (c.requires.series c.if-divide.true) each) c.quotients.ensures

pub returns-then-divide-clause-mean : goal.returns-then-divide-clause-mean
returns-then-divide-clause-mean c = IfOk-weaker c.quotients.result _ _
    (λ ids each. divided_mean c.args.a.now c.args.b.now c.args.graph.now c.quotients.new.graph ids.items
    c.requires.some.0 (record { index = 0 }) (c.requires.series c.if-divide.true) each c.args.divide
    c.if-divide.true) c.quotients.ensures

pub returns-else-divide-clause-slots : goal.returns-else-divide-clause-slots
returns-else-divide-clause-slots c = IfOk-weaker c.products.result _ _
    (λ ids each. multiplied_slots c.args.a.now c.args.b.now c.args.graph.now c.products.new.graph ids.items
    c.requires.some.0 c.requires.some.1 each) c.products.ensures

pub returns-else-divide-clause-mean : goal.returns-else-divide-clause-mean
returns-else-divide-clause-mean c = IfOk-weaker c.products.result _ _
    (λ ids each. multiplied_mean c.args.a.now c.args.b.now c.args.graph.now c.products.new.graph ids.items
    c.requires.some.0 c.requires.some.1 each c.args.divide c.if-divide.false) c.products.ensures
