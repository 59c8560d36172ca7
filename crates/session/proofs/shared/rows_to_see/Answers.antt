use Rattle.std.proofs.Common.{IsTrue, ◌↔◌, sym, ◌∙◌, subst}
use Rattle.ps_model.specs.Job.{job_ring}
use Rattle.ps_model.specs.Lead.{IsLeadShown}
use Rattle.ps_model.specs.declared.job.JobData.{JobData}
use Rattle.session.proofs.SharedRows.{if_ok_same}
use Rattle.session.proofs.shared.rows_to_see.Goals as goal

pub new-requires-clause-shown : goal.new-requires-clause-shown
new-requires-clause-shown c = subst (λ (j : JobData). IsTrue c.args.shows_lead ↔ IsLeadShown (job_ring j) j.expr)
    (sym (c.in_ok-data.ensures ∙ c.data.ensures)) c.requires.shown

pub returns-clause-job : goal.returns-clause-job
returns-clause-job c = if_ok_same c.new.result _ _ _ (λ i. record {
  names = (c.in_ok-names.ensures ∙ c.names.ensures) i;
  job = (c.in_ok-data.ensures ∙ c.data.ensures) i;
}) c.new.ensures.job
