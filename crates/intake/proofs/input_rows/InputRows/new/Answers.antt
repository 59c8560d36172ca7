use Rattle.std.proofs.Common.{Bool, List, sym, ◌∙◌, ap, subst, arith}
use Rattle.std.specs.Arc.{arc_value}
use Rattle.ps_model.specs.Tree.{formal_degree}
use Rattle.ps_model.proofs.JobRoots.{valid_small}
use Rattle.series_graph.specs.GraphValue.{GraphValue, size_of}
use Rattle.series_graph.specs.declared.node.NodeId.{NodeId}
use Rattle.intake.specs.Jobs.{HoldsRows}
use Rattle.intake.proofs.NewRows.{which_last, room_last, unit_last, divided_given, plain_rows}
use Rattle.intake.proofs.input_rows.InputRows.new.Goals as goal
use Rattle.intake.proofs.input_rows.InputRows.new.Goals.{then-has_lead+in_ok-monic, else-has_lead+in_ok-monic-2}

pub multiplied-requires-clause-unit : goal.multiplied-requires-clause-unit
multiplied-requires-clause-unit c = λ id alone divides. unit_last c.args.ring (arc_value c.args.job) c.requires.ring.0
    c.requires.lawful c.args.graph c.requires.ring.1 c.args.input.items c.requires.within c.requires.slots id
    (which_last c.args.input.items c.deref-then-has_lead.result.now c.len.result
    (formal_degree (arc_value c.args.job).expr) id c.deref-then-has_lead.ensures.value (omega (arith, c.len.ensures))
    c.requires.slots.count alone)

pub multiplied-requires-clause-room : goal.multiplied-requires-clause-room
multiplied-requires-clause-room c = room_last (size_of c.args.graph) c.len.result
    (formal_degree (arc_value c.args.job).expr) c.args.input.items c.deref-then-has_lead.result.now c.deref.result.now
    c.requires.room (valid_small (arc_value c.args.job) c.requires.lawful.valid) c.requires.slots.count
    c.deref.ensures.value c.deref-then-has_lead.ensures.value (omega (arith, c.len.ensures))

pub invariant_of-result : goal.invariant_of-result
invariant_of-result c =
    let job = arc_value c.args.job in
    elim c.if-has_lead.branch [
      | then-has_lead+in_ok-monic w ↦
          subst (λ (p : Bool × (GraphValue × List NodeId)). HoldsRows c.args.ring job p.0 p.1.0 c.args.input.items
          p.1.1)
          (λ i. (sym w.if-has_lead.true i, (sym w.graph-is i, sym (ap (λ v. v.items) w.monic-is) i)))
          (divided_given c.args.ring job c.requires.ring.0 c.requires.lawful c.args.graph c.requires.ring.1
          c.args.input.items c.requires.within c.requires.slots w.multiplied.new.graph w.deref.result.now
          w.deref-then-has_lead.result.now w.len.result w.in_ok-monic.monic.items w.deref.ensures.value
          w.deref-then-has_lead.ensures.value (omega (arith, w.len.ensures)) w.in_ok-monic.ensures.slots
          w.in_ok-monic.ensures.mean (λ known. c.is_shown-has_lead.ensures.shown w.if-has_lead.true
          ((c.requires.lead 1).1 known)))
      | else-has_lead+in_ok-monic-2 w ↦
          subst (λ (p : Bool × (GraphValue × List NodeId)). HoldsRows c.args.ring job p.0 p.1.0 c.args.input.items
          p.1.1)
          (λ i. (sym w.if-has_lead.false i, (sym w.graph-is i, sym (ap (λ v. v.items) w.monic-is) i)))
          (plain_rows c.args.ring job c.requires.ring.0 c.requires.lawful c.args.graph c.requires.ring.1
          c.args.input.items c.requires.within c.requires.slots w.in_ok-monic-2.monic.items
          (w.in_ok-monic-2.ensures.items_if_clones_equal (λ x y e. e) ∙ w.deref-else-has_lead.ensures.value)
          ((c.requires.lead 1).0 (c.is_shown-has_lead.ensures.known w.if-has_lead.false)))
    ]
