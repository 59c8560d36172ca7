use Rattle.std.proofs.Common.{◌≡◌, ◌+◌, ◌-◌, ◌≤◌, length, sym, subst, arith}
use Rattle.series_graph.specs.GraphValue.{size_of}
use Rattle.intake.specs.Slots.{AreIn}
use Rattle.intake.proofs.Built.{still_in}
use Rattle.intake.proofs.PowerSlots.{PowerBuilt, power_one, power_room, power_next}
use Rattle.intake.proofs.slots.power.Goals as goal

pub loop-init : goal.loop-init
loop-init c = power_one c.args.graph.now c.args.base.now c.in_ok-slots.slots.items c.requires.some.0 c.requires.ids
    (c.in_ok-slots.ensures.items_if_clones_equal (λ x y e. e))

pub multiplied-requires-clause-ids : goal.multiplied-requires-clause-ids
multiplied-requires-clause-ids c = (
  subst (λ ids. AreIn c.loop.graph ids) (sym c.deref.ensures.value) c.loop.invariant.nodes.within,
  still_in _ _ c.args.graph.now c.loop.graph c.loop.slots.items c.args.base.now c.loop.invariant.nodes c.requires.ids,
)

pub multiplied-requires-clause-room : goal.multiplied-requires-clause-room
multiplied-requires-clause-room c = subst
    (λ ids. size_of c.loop.graph + (length ids + length c.args.base.now - 1) ≤ 65536) (sym c.deref.ensures.value)
    (power_room c.args.graph.now c.loop.graph c.args.base.now c.loop.slots.items c.loop.counter c.args.exponent
    c.requires.some.0 c.loop.invariant (omega arith) c.requires.room)

pub loop-preserved : goal.loop-preserved
loop-preserved c = power_next c.args.graph.now c.loop.graph c.multiplied.new.graph c.args.base.now c.deref.result.now
    c.in_ok-slots-2.slots.items c.loop.counter c.requires.some.0
    (subst (λ ids. PowerBuilt c.args.graph.now c.loop.graph c.args.base.now ids c.loop.counter)
    (sym c.deref.ensures.value) c.loop.invariant) c.in_ok-slots-2.ensures.slots c.in_ok-slots-2.ensures.mean

pub returns-clause-slots : goal.returns-clause-slots
returns-clause-slots c =
    let all : c.loop.counter ≡ c.args.exponent = omega arith in
    (subst (λ e. PowerBuilt c.args.graph.now c.loop.graph c.args.base.now c.loop.slots.items e) all
    c.loop.invariant).nodes

pub returns-clause-mean : goal.returns-clause-mean
returns-clause-mean c =
    let all : c.loop.counter ≡ c.args.exponent = omega arith in
    (subst (λ e. PowerBuilt c.args.graph.now c.loop.graph c.args.base.now c.loop.slots.items e) all
    c.loop.invariant).mean
