use Rattle.std.proofs.Common.{subst}
use Rattle.std.proofs.lemmas.Result.{IfOk-weaker}
use Rattle.parts.specs.RowsOfParts.{parts_of}
use Rattle.intake.specs.InputValue.{InputValue, IsValueRow}
use Rattle.intake.proofs.InputRowsRead.{input_row, input_kept}
use Rattle.intake.proofs.free_input.FreeInput.row.Goals as goal

pub invariant_of-self : goal.invariant_of-self
invariant_of-self c = input_kept _ c.self.inside.graph c.self.inside.slots.items c.self.inside.lead c.self.invariant
    c.row_of.new.graph c.row_of.ensures.kept

pub returns-clause-row : goal.returns-clause-row
returns-clause-row c = IfOk-weaker c.row_of.result _ _ (λ row are. subst
    (λ (input : InputValue). IsValueRow input c.args.r (parts_of row.items)) c.self.view_is
    (input_row _ c.self.inside.graph c.self.inside.slots.items c.self.inside.lead c.self.invariant _ c.args.r
    (parts_of row.items) c.deref.ensures.value are)) c.row_of.ensures.row
