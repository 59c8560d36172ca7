-- What is written from a session is what the definitions say of its job.
--     job_in ring job      the job with the modulus and the weights of a ring, which of the job's own ring is the job
--     HasFactorsTo s D      what a writer sees up to degree D are the job's factors and its lead, and the texts of
--         precision D and of degree D are those of them
use Rattle.std.specs.Prelude.{◌≡◌, ℕ, List, Option}
use Rattle.ps_model.specs.declared.job.JobData.{JobData}
use Rattle.ps_model.specs.BlockText.{block_text}
use Rattle.ps_model.specs.StreamText.{degree_text}
use Rattle.ps_model.specs.Job.{job_ring, IsFactors}
use Rattle.ps_model.specs.Lead.{IsLead, IsShownLead}
use Rattle.ps_model.specs.SeriesRing.{Poly}
use Rattle.parts.specs.declared.rings.Ring.{Ring}
use Rattle.parts.specs.Rings.{modulus_of, eight_weights}
use Rattle.parts.specs.Series.{series}
use Rattle.printer.specs.Texts.{factors_to, lead_to, shown_lead}
use Rattle.session.specs.Sessions.{SessionState, value_of}

abbrev pub job_in : Ring → JobData → JobData
job_in ring job = record {
  modulus = modulus_of ring;
  n = job.n;
  weights = eight_weights ring;
  expr = job.expr;
  roots = job.roots;
}

pub record HasFactorsTo (s : SessionState) (D : ℕ) : Type 0 where
  pub factors : IsFactors (job_in s.ring s.job.job) D (factors_to (value_of s) D)
  pub lead : IsLead (series s.ring) D s.job.job.expr (lead_to (value_of s) D)
  pub block : (names : List (List ℕ)) (fs : List (Poly (job_ring s.job.job)))
      (lead : Option (Poly (job_ring s.job.job)))
      → IsFactors s.job.job D fs → IsShownLead (job_ring s.job.job) D s.job.job.expr lead
      → block_text (series s.ring) names (shown_lead (value_of s) D) s.job.job.roots (factors_to (value_of s) D) D
      ≡ block_text (job_ring s.job.job) names lead s.job.job.roots fs D
  pub degree : (names : List (List ℕ)) (fs : List (Poly (job_ring s.job.job)))
      (lead : Option (Poly (job_ring s.job.job)))
      → IsFactors s.job.job D fs → IsShownLead (job_ring s.job.job) D s.job.job.expr lead
      → degree_text (series s.ring) names (shown_lead (value_of s) D) s.job.job.roots (factors_to (value_of s) D) D
      ≡ degree_text (job_ring s.job.job) names lead s.job.job.roots fs D
