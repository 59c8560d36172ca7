use Rattle.std.proofs.Common.{◌+◌, List, ◌∷◌, [], ◌++◌, take, subst, refl, sym, ap, ◌∙◌}
use Rattle.std.specs.Arc.{arc_value}
use Rattle.parts.specs.PartValue.{PartValue}
use Rattle.parts.specs.RowsOfParts.{parts_of}
use Rattle.series_graph.specs.Calls.{Keeps}
use Rattle.intake.specs.InputRows.{ArePartsOf}
use Rattle.intake.proofs.KnownRows.{keeps_trans, row_next, parts_more}
use Rattle.intake.proofs.slot_rows.row_of.Goals as goal

pub returns-in_err-extend-clause-kept : goal.returns-in_err-extend-clause-kept
returns-in_err-extend-clause-kept c =
    keeps_trans c.args.graph.now c.loop-slot.graph c.extend.new.self c.loop-slot.invariant.kept c.extend.ensures.kept

pub returns-in_err-try_clone-clause-kept : goal.returns-in_err-try_clone-clause-kept
returns-in_err-try_clone-clause-kept c =
    keeps_trans c.args.graph.now c.loop-slot.graph c.extend.new.self c.loop-slot.invariant.kept c.extend.ensures.kept

pub returns-in_err-push-clause-kept : goal.returns-in_err-push-clause-kept
returns-in_err-push-clause-kept c =
    keeps_trans c.args.graph.now c.loop-slot.graph c.extend.new.self c.loop-slot.invariant.kept c.extend.ensures.kept

pub loop-slot-preserved : goal.loop-slot-preserved
loop-slot-preserved c =
    let kept : Keeps c.args.graph.now c.extend.new.self =
    keeps_trans c.args.graph.now c.loop-slot.graph c.extend.new.self c.loop-slot.invariant.kept
    c.extend.ensures.kept in
    record {
      kept = kept;
      parts = subst (λ (row : List PartValue). ArePartsOf c.args.graph.now (take
          (c.loop-slot.slot-index + 1) c.args.slots.now)
          c.args.r row)
          (sym (ap parts_of c.in_ok-push.ensures.items ∙ parts_more c.loop-slot.row.items c.in_ok-try_clone.field-0
          ∙ ap (λ p. parts_of c.loop-slot.row.items ++ p ∷ []) c.in_ok-try_clone.ensures))
          (row_next c.args.graph.now c.extend.new.self c.args.slots.now c.loop-slot.slot-index c.args.r
          (parts_of c.loop-slot.row.items) (record { index = 0 }) _ (arc_value c.part.result.now) c.loop-slot-test.true
          refl kept c.loop-slot.invariant.parts c.part.ensures.part c.part.ensures.meaning);
    }
