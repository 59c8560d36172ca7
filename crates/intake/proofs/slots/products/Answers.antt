use Rattle.std.proofs.Common.{suc, ap, ◌∙◌, arith}
use Rattle.series_graph.specs.Formula.{Dot}
use Rattle.series_graph.specs.GraphValue.{size_of}
use Rattle.intake.specs.Slots.{pairs_to}
use Rattle.intake.proofs.SlotSteps.{each_next, each_room, each_size, pairs_ids}
use Rattle.intake.proofs.slots.products.Goals as goal

pub dot-requires : goal.dot-requires
dot-requires c =
    let size = each_size c.loop-j.j (λ j. Dot (pairs_to c.args.a.now c.args.b.now j (suc j))) c.args.graph.now
    c.loop-j.graph c.loop-j.slots.items c.loop-j.invariant in
    record {
      ids = pairs_ids (size_of c.args.graph.now) (size_of c.loop-j.graph) c.args.a.now c.args.b.now c.loop-j.j _
          (c.deref.ensures.value ∙ c.in_ok-of.ensures) (omega (arith, size)) c.requires.ids.0 c.requires.ids.1;
    }

pub made-requires-clause-room : goal.made-requires-clause-room
made-requires-clause-room c = λ full. each_room c.loop-j.j c.args.count
    (λ j. Dot (pairs_to c.args.a.now c.args.b.now j (suc j))) c.args.graph.now c.loop-j.graph c.loop-j.slots.items
    c.loop-j.invariant (omega arith) c.requires.room (c.dot.ensures.full.0 full)

pub loop-j-preserved : goal.loop-j-preserved
loop-j-preserved c = each_next (λ j. Dot (pairs_to c.args.a.now c.args.b.now j (suc j))) c.loop-j.j c.args.graph.now
    c.loop-j.graph c.dot.new.self c.loop-j.slots.items c.push.new.self.items (Dot c.deref.result.now)
    c.in_ok-made.field-0 c.dot.result c.loop-j.invariant (ap Dot (c.deref.ensures.value ∙ c.in_ok-of.ensures))
    c.dot.ensures.ok c.in_ok-made.ensures c.in_ok-push.ensures.items
