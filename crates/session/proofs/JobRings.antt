-- A job in the ring of its parts is the job itself.
use Rattle.std.proofs.Common.{◌≡◌, sym, subst}
use Rattle.ps_model.specs.declared.job.JobData.{JobData}
use Rattle.ps_model.specs.AcceptedJob.{IsAccepted, IsLawfulJob}
use Rattle.ps_model.proofs.JobRoots.{accepted_lawful}
use Rattle.parts.specs.declared.rings.Ring.{Ring}
use Rattle.parts.specs.JobRows.{IsRingOf}
use Rattle.session.specs.Factors.{job_in}

module _ (ring : Ring) (job : JobData) (is : IsRingOf ring job) where
  pub same_job : job_in ring job ≡ job
  same_job = λ i. record { modulus = is.0 i; n = job.n; weights = is.2 i; expr = job.expr; roots = job.roots }

  pub accepted_in : IsAccepted job → IsAccepted (job_in ring job)
  accepted_in ok = subst IsAccepted (sym same_job) ok

  pub lawful_in : IsAccepted job → IsLawfulJob (job_in ring job)
  lawful_in ok = accepted_lawful (job_in ring job) (accepted_in ok)
