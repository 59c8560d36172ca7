-- What is written from a session are the texts of the definitions.
use Rattle.std.proofs.Common.{◌≡◌, ℕ, List, Option, subst}
use Rattle.ps_model.specs.declared.job.JobData.{JobData}
use Rattle.ps_model.specs.BlockText.{block_text}
use Rattle.ps_model.specs.StreamText.{degree_text}
use Rattle.ps_model.specs.Job.{job_ring, IsFactors}
use Rattle.ps_model.specs.Lead.{IsShownLead}
use Rattle.ps_model.specs.SeriesRing.{Poly}
use Rattle.parts.specs.Series.{series}
use Rattle.printer.specs.View.{HasUpTo}
use Rattle.printer.specs.Texts.{factors_to, shown_lead}
use Rattle.session.specs.Factors.{HasFactorsTo}
use Rattle.session.specs.Sessions.{SessionState, value_of, IsSession, HasItems}
use Rattle.session.proofs.FactorRows.{factors_are, are_factors}
use Rattle.session.proofs.JobRings.{same_job}
use Rattle.session.proofs.LeadSeries.{is_lead, shown_is}

pub written : (s : SessionState) (D : ℕ) → IsSession s → HasItems s → HasUpTo (value_of s) D → HasFactorsTo s D
written s D holds fits up_to = record {
  factors = are_factors s holds fits D up_to;
  lead = is_lead s holds D up_to;
  block = subst (λ (j : JobData). (names : List (List ℕ)) (fs : List (Poly (job_ring j))) (lead : Option (Poly
      (job_ring j)))
      → IsFactors j D fs → IsShownLead (job_ring j) D j.expr lead
      → block_text (series s.ring) names (shown_lead (value_of s) D) s.job.job.roots (factors_to (value_of s) D) D
      ≡ block_text (job_ring j) names lead j.roots fs D)
      (same_job s.ring s.job.job holds.ring_is)
      (λ names fs lead are shown i. block_text (series s.ring) names (shown_is s holds D up_to lead shown i)
      s.job.job.roots (factors_are s holds fits D up_to fs are i) D);
  degree = subst (λ (j : JobData). (names : List (List ℕ)) (fs : List (Poly (job_ring j))) (lead : Option (Poly
      (job_ring j)))
      → IsFactors j D fs → IsShownLead (job_ring j) D j.expr lead
      → degree_text (series s.ring) names (shown_lead (value_of s) D) s.job.job.roots (factors_to (value_of s) D) D
      ≡ degree_text (job_ring j) names lead j.roots fs D)
      (same_job s.ring s.job.job holds.ring_is)
      (λ names fs lead are shown i. degree_text (series s.ring) names (shown_is s holds D up_to lead shown i)
      s.job.job.roots (factors_are s holds fits D up_to fs are i) D);
}
