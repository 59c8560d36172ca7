use Rattle.std.proofs.Common.{◌<◌, ap, sym, subst, ◌∙◌, arith}
use Rattle.std.specs.List.{All}
use Rattle.parts.specs.Rings.{modulus_of}
use Rattle.series_graph.specs.Formula.{Combination}
use Rattle.series_graph.specs.GraphValue.{size_of}
use Rattle.intake.specs.Slots.{terms_of}
use Rattle.intake.specs.declared.slots.Addend.{Addend}
use Rattle.intake.proofs.SlotSteps.{each_next, each_room, each_size, terms_residues, terms_ids}
use Rattle.intake.proofs.slots.sums.Goals as goal

pub combine-requires-clause-residues : goal.combine-requires-clause-residues
combine-requires-clause-residues c = terms_residues (modulus_of c.loop-j.graph.ring) c.args.addends.now c.loop-j.j _
    (c.deref.ensures.value ∙ c.in_ok-of.ensures)
    (subst (λ m. All (λ (a : Addend). a.sign < m) c.args.addends.now)
    (ap modulus_of (sym c.loop-j.invariant.ring_is)) c.requires.residues)

pub combine-requires-clause-ids : goal.combine-requires-clause-ids
combine-requires-clause-ids c =
    let size = each_size c.loop-j.j (λ j. Combination (terms_of c.args.addends.now j)) c.args.graph.now
    c.loop-j.graph c.loop-j.slots.items c.loop-j.invariant in
    terms_ids (size_of c.args.graph.now) (size_of c.loop-j.graph) c.args.addends.now c.loop-j.j _
    (c.deref.ensures.value ∙ c.in_ok-of.ensures) (omega (arith, size)) c.requires.ids

pub made-requires-clause-room : goal.made-requires-clause-room
made-requires-clause-room c = λ full. each_room c.loop-j.j c.args.count
    (λ j. Combination (terms_of c.args.addends.now j)) c.args.graph.now c.loop-j.graph c.loop-j.slots.items
    c.loop-j.invariant (omega arith) c.requires.room (c.combine.ensures.full.0 full)

pub loop-j-preserved : goal.loop-j-preserved
loop-j-preserved c = each_next (λ j. Combination (terms_of c.args.addends.now j)) c.loop-j.j c.args.graph.now
    c.loop-j.graph c.combine.new.self c.loop-j.slots.items c.push.new.self.items (Combination c.deref.result.now)
    c.in_ok-made.field-0 c.combine.result c.loop-j.invariant
    (ap Combination (c.deref.ensures.value ∙ c.in_ok-of.ensures))
    c.combine.ensures.ok c.in_ok-made.ensures c.in_ok-push.ensures.items
