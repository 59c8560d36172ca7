use Rattle.std.proofs.Common.{IsTrue, subst}
use Rattle.std.specs.Arc.{arc_value}
use Rattle.std.specs.Prelude.{◌↔◌}
use Rattle.ps_model.specs.declared.job.JobData.{JobData}
use Rattle.ps_model.specs.Job.{job_ring}
use Rattle.ps_model.specs.Lead.{IsLeadShown}
use Rattle.intake.proofs.JobSlots.{shown_here, shown_there}
use Rattle.intake.proofs.input_rows.InputRows.has_lead.Goals as goal

pub returns : goal.returns
returns c =
    let s = c.self.inside in
    let is = c.self.invariant in
    subst (λ (job : JobData). IsTrue s.has_lead ↔ IsLeadShown (job_ring job) job.expr) c.self.view_is (
      λ has. shown_there s.ring (arc_value s.job) is.ring_is (is.shown.0 has),
      λ shown. is.shown.1 (shown_here s.ring (arc_value s.job) is.ring_is shown),
    )
