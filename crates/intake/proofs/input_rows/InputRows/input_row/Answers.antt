use Rattle.std.proofs.Common.{List, subst}
use Rattle.std.specs.Arc.{arc_value}
use Rattle.std.specs.declared.alloc.Global.{Global}
use Rattle.std.specs.declared.sync.Arc.{Arc}
use Rattle.std.specs.declared.vec.Vec.{Vec}
use Rattle.std.proofs.lemmas.Result.{IfOk-weaker}
use Rattle.ps_model.specs.declared.job.JobData.{JobData}
use Rattle.parts.specs.PartValue.{PartValue}
use Rattle.parts.specs.RowsOfParts.{parts_of}
use Rattle.series_graph.specs.declared.node.NodeId.{NodeId}
use Rattle.intake.specs.InputRows.{ArePartsOf}
use Rattle.intake.specs.Jobs.{IsValueRowOf}
use Rattle.intake.proofs.JobSlots.{value_row}
use Rattle.intake.proofs.input_rows.InputRows.input_row.Goals as goal

pub returns-clause-row : goal.returns-clause-row
returns-clause-row c =
    let s = c.self.inside in
    let is = c.self.invariant in
    IfOk-weaker {X = Vec (Arc PartValue Global) Global} c.row_of.result
    (λ out. ArePartsOf s.graph c.deref.result.now c.args.r (parts_of out.items))
    (λ out. IsValueRowOf c.args.self.now c.args.r (parts_of out.items))
    (λ out are. subst (λ (job : JobData). IsValueRowOf job c.args.r (parts_of out.items)) c.self.view_is
    (value_row s.ring (arc_value s.job) is.ring_is s.graph is.graph_ring s.input.items c.args.r (parts_of out.items)
    (subst (λ (ids : List NodeId). ArePartsOf s.graph ids c.args.r (parts_of out.items)) c.deref.ensures.value are)
    is.input_slots.count is.input_slots)) c.row_of.ensures.row
