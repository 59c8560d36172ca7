use Rattle.std.proofs.Common.{subst}
use Rattle.intake.specs.InputValue.{InputValue}
use Rattle.intake.specs.Jobs.{IsOriginRow}
use Rattle.intake.proofs.InputRowsRead.{origin_none, origin_more, origin_row}
use Rattle.intake.proofs.free_input.FreeInput.at_origin.Goals as goal

pub loop-slot-init : goal.loop-slot-init
loop-slot-init c = origin_none _ _ _ _ c.new-row.ensures.items

pub loop-slot-preserved : goal.loop-slot-preserved
loop-slot-preserved c = origin_more _ _ _ _ _ _ _ c.loop-slot-test.true c.in_ok-push.ensures.items
    (record {
      small = c.constant.ensures.residue;
      one = c.constant.ensures.meaning 0;
      term =
          c.constant.ensures.term 0;
    })
    c.loop-slot.invariant

pub returns : goal.returns
returns c = subst (λ (input : InputValue). IsOriginRow input c.loop-slot.row.items) c.self.view_is
    (origin_row _ c.self.inside.graph c.self.inside.slots.items c.self.inside.lead c.self.invariant _ _ _
    c.deref-slot-items.ensures.value c.loop-slot-test.false c.loop-slot.invariant)
