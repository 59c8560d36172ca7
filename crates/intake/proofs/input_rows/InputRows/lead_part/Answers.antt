use Rattle.std.proofs.Common.{sym, subst, arith}
use Rattle.std.specs.Arc.{arc_value}
use Rattle.ps_model.specs.declared.job.JobData.{JobData}
use Rattle.ps_model.specs.Tree.{formal_degree}
use Rattle.parts.specs.PartValue.{PartValue}
use Rattle.intake.specs.Jobs.{HoldsRows, IsLeadPartOf}
use Rattle.intake.proofs.JobSlots.{last_read, last_part, rows_kept}
use Rattle.intake.proofs.input_rows.InputRows.lead_part.Goals as goal

pub returns-clause-part : goal.returns-clause-part
returns-clause-part c =
    let s = c.self.inside in
    let graph = c.extend.new.self in
    let is : HoldsRows s.ring (arc_value s.job) s.has_lead graph s.input.items s.monic.items =
    rows_kept s.ring (arc_value s.job) s.has_lead s.graph graph s.input.items s.monic.items c.extend.ensures.kept
    c.self.invariant in
    subst (λ (job : JobData). IsLeadPartOf job c.args.r (arc_value c.in_ok-try_clone.field-0)) c.self.view_is
    (subst (λ (p : PartValue). IsLeadPartOf (arc_value s.job) c.args.r p) (sym c.in_ok-try_clone.ensures)
    (last_part s.ring (arc_value s.job) is.ring_is graph is.graph_ring s.input.items c.args.r is.input_slots
    c.index-lead.result.now
    (last_read s.input.items c.len.result (formal_degree (arc_value s.job).expr) c.index-lead.result.now
    (omega (arith, c.len.ensures)) is.input_slots.count c.index-lead.ensures)
    (arc_value c.part.result.now) c.part.ensures.part c.part.ensures.meaning))
