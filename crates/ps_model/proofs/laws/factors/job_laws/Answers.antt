use Rattle.std.proofs.Common.{sym}
use Rattle.ps_model.specs.Job.{job_ring}
use Rattle.ps_model.proofs.MonicInputs.{lead_unit}
use Rattle.ps_model.proofs.JobRoots.{valid_degree, valid_small, valid_input, lawful_lead, accepted_lawful}
use Rattle.ps_model.proofs.JobFactors.{factors_list, list_factors}
use Rattle.ps_model.proofs.JobValues.{lawful_input, lawful_factorable}
use Rattle.ps_model.proofs.laws.factors.job_laws.Goals as goal

pub returns : goal.returns
returns c = record {
  degree = λ job ok. (sym (valid_degree job ok.valid), valid_small job ok.valid);
  input = λ job ok. valid_input job ok.valid;
  lead = λ job D l ok is. lead_unit (job_ring job) D job.expr l (lawful_lead job ok) is;
  monic_input = λ job D ok. lawful_input job ok D;
  factorable = λ job D q ok is. lawful_factorable job ok D q is;
  lists = λ job D q fs ok is. (factors_list job ok D q fs is, list_factors job D q fs is);
  accepted = accepted_lawful;
}
