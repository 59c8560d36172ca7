use Rattle.std.proofs.Common.{IsTrue, subst}
use Rattle.std.specs.Prelude.{◌↔◌}
use Rattle.ps_model.specs.Job.{job_ring}
use Rattle.ps_model.specs.Lead.{IsLeadShown}
use Rattle.intake.specs.Jobs.{JobValue}
use Rattle.intake.proofs.job.Job.has_lead.Goals as goal

pub returns : goal.returns
returns c = subst (λ (v : JobValue). IsTrue c.has_lead.result ↔ IsLeadShown (job_ring v.job) v.job.expr) c.self.view_is
    c.has_lead.ensures
