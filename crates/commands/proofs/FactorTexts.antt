-- What is written from a session is the one text that answers.
use Rattle.std.proofs.Common.{◌≡◌, ℕ, zero, suc, ◌<◌, ◌≤◌, ◌↔◌, Bool, true, false, IsTrue, List, [], ◌++◌, length}
use Rattle.std.proofs.Common.{Option, Some, None, refl, sym, ◌∙◌, ap, subst, arith}
use Rattle.std.specs.Prelude.{if◌then◌else◌, codes, decimal}
use Rattle.ps_model.specs.BlockText.{newline}
use Rattle.ps_model.specs.Factors.{each_truncated}
use Rattle.ps_model.specs.Job.{job_ring, IsFactors}
use Rattle.ps_model.specs.Lead.{IsLead, IsLeadShown, IsShownLead}
use Rattle.ps_model.specs.SeriesRing.{SeriesRing, Poly}
use Rattle.ps_model.specs.StreamText.{degree_text, degrees_text, stream_text}
use Rattle.ps_model.specs.declared.expr.Expr.{Expr}
use Rattle.ps_model.specs.declared.job.JobData.{JobData}
use Rattle.ps_model.proofs.JobFactors.{factors_truncated}
use Rattle.ps_model.proofs.MonicInputs.{lead-truncated}
use Rattle.parts.specs.Series.{series}
use Rattle.expr_reader.specs.NameLists.{are_names, as_names}
use Rattle.printer.specs.Texts.{factors_to, shown_lead, lead_to, view_text, view_degree_text}
use Rattle.printer.specs.View.{HasUpTo}
use Rattle.script.proofs.LeadsDecided.{lead_stable}
use Rattle.script.specs.Requests.{precision_of}
use Rattle.script.specs.Script.{Has}
use Rattle.script.specs.declared.request.Request.{Request}
use Rattle.script.specs.declared.request.Request.TheVariants.{Show, Stream}
use Rattle.session.specs.Calls.{IsEven}
use Rattle.session.specs.Factors.{HasFactorsTo}
use Rattle.session.specs.Sessions.{SessionState, value_of, IsSession, HasItems}
use Rattle.session.specs.Views.{no_stage, items_count}
use Rattle.session.proofs.JobRings.{same_job}
use Rattle.session.proofs.Written.{written}
use Rattle.commands.specs.Answering.{AnswersOnly}
use Rattle.commands.specs.Replies.{IsBlock, IsStream}
use Rattle.session.specs.ViewTexts.{texts_up_to, view_stream_text}
use Rattle.commands.specs.Streams.{view_answer}
use Rattle.commands.specs.declared.command.ScriptCommand.TheVariants.{Factor}
use Rattle.session.proofs.CutTexts.{cut_lead, degree_cut}
use Rattle.session.proofs.StreamSteps.{lower_known}

-- the names of a session's job are names
pub names_named : (s : SessionState) → IsSession s → as_names s.job.names ≡ s.job.names
names_named s holds = by (are_names s.job.names) holds.named holds.of_job.accepted.variables.0
  where
    by : (b : Bool) → s.job.job.n ≤ length (if b then s.job.names else []) → 1 ≤ s.job.job.n
        → (if b then s.job.names else []) ≡ s.job.names
    by true le some = refl
    by false le some = absurd (omega arith)

-- where all is even, the degrees below the number are there
pub even_up_to : (n D : ℕ) (s : SessionState) → IsSession s → HasItems s → IsEven n s → D < n → HasUpTo (value_of s) D
even_up_to n D s holds fits even lt = (
  λ i low.
      let count = items_count s holds fits i low in
      let there : i < length s.stages = (let same = holds.of_job.count in omega arith) in
      let many = (even.stages i (no_stage s holds fits) there).0 in
      omega arith,
  let many = even.lead in omega arith,
)

no_truth : false ≡ true → ⊥
no_truth same = cc

-- a lead that is shown, at a lower degree
cut_shown : (S : SeriesRing) (r D : ℕ) (e : Expr) → r ≤ D → (lead : Option (Poly S)) → IsShownLead S D e lead
    → IsShownLead S r e (cut_lead S r lead)
cut_shown S r D e le None is = is
cut_shown S r D e le (Some l) is = (is.0, lead-truncated S r D e l le is.1)

same_texts : (f g : ℕ → List ℕ) (D : ℕ) → ((r : ℕ) → r ≤ D → f r ≡ g r) → texts_up_to f D ≡ texts_up_to g D
same_texts f g zero same = same 0 (omega arith)
same_texts f g (suc D) same = λ i. same_texts f g D (λ r le. same r (omega arith)) i ++ same (suc D) (omega arith) i

degrees_are : (S : SeriesRing) (names : List (List ℕ)) (lead : Option (Poly S)) (roots : _) (fs : List (Poly S)) (D : ℕ)
    → degrees_text S names lead roots fs D ≡ texts_up_to (degree_text S names lead roots fs) D
degrees_are S names lead roots fs zero = refl
degrees_are S names lead roots fs (suc D) =
    ap (λ (l : List ℕ). l ++ degree_text S names lead roots fs (suc D)) (degrees_are S names lead roots fs D)

-- what is shown of a job: factors, and its lead
abbrev Shows : ℕ → JobData → Type 0
Shows D j =
    (fs : List (Poly (job_ring j))) × (lead : Option (Poly (job_ring j)))
    × IsFactors j D fs × IsShownLead (job_ring j) D j.expr lead

module _ (s : SessionState) (holds : IsSession s) (fits : HasItems s) where
  abbrev job : JobData
  job = s.job.job

  module _ (D : ℕ) (up_to : HasUpTo (value_of s) D) where
    has : HasFactorsTo s D
    has = written s D holds fits up_to

    pub shown_by : (S : SeriesRing) (b : Bool) → IsTrue b ↔ IsLeadShown S job.expr → (l : Poly S) → IsLead S D
        job.expr l
        → IsShownLead S D job.expr (if b then Some l else None)
    shown_by S true both l is = (both.0 refl, is)
    shown_by S false both l is = lead_stable S job.expr (λ unknown. no_truth (both.1 unknown))

    shows : Shows D job
    shows = subst (Shows D) (same_job s.ring job holds.ring_is) (
      factors_to (value_of s) D,
      shown_lead (value_of s) D,
      has.factors,
      shown_by (series s.ring) s.shows_lead
          (subst (λ (j : JobData). IsTrue s.shows_lead ↔ IsLeadShown (job_ring j) j.expr)
          (sym (same_job s.ring job holds.ring_is)) holds.shown) (lead_to (value_of s) D) has.lead,
    )

    module _ (names : List (List ℕ)) where
      pub block_there : IsBlock names job D (view_text names (value_of s) D)
      block_there = (
        shows.0,
        shows.1,
        shows.2,
        shows.3,
        has.block names shows.0 shows.1 shows.2 shows.3,
      )

      pub block_only : (other : List ℕ) → IsBlock names job D other → other ≡ view_text names (value_of s) D
      block_only other (fs, lead, are, shown, is) = is ∙ sym (has.block names fs lead are shown)

      module _ (fs : List (Poly (job_ring job))) (lead : Option (Poly (job_ring job))) (are : IsFactors job D fs)
          (shown : IsShownLead (job_ring job) D job.expr lead) where
        degree_is : (r : ℕ) → r ≤ D
            → view_degree_text names (value_of s) r ≡ degree_text (job_ring job) names lead job.roots fs r
        degree_is r le =
            (written s r holds fits (lower_known (value_of s) r D le up_to)).degree names (each_truncated r fs)
            (cut_lead (job_ring job) r lead) (factors_truncated job r D le fs are)
            (cut_shown (job_ring job) r D job.expr le lead shown)
            ∙ degree_cut (job_ring job) r names lead job.roots fs

        stream_is : view_stream_text names (value_of s) D ≡ stream_text (job_ring job) names lead job.roots fs D
        stream_is = ap (λ (l : List ℕ). codes "stream " ++ decimal D ++ newline ++ l ++ codes "end" ++ newline)
            (same_texts (view_degree_text names (value_of s)) (degree_text (job_ring job) names lead job.roots fs) D
            degree_is
            ∙ sym (degrees_are (job_ring job) names lead job.roots fs D))

      pub stream_there : IsStream names job D (view_stream_text names (value_of s) D)
      stream_there = (
        shows.0,
        shows.1,
        shows.2,
        shows.3,
        stream_is shows.0 shows.1 shows.2 shows.3,
      )

      pub stream_only : (other : List ℕ) → IsStream names job D other → other ≡ view_stream_text names (value_of s) D
      stream_only other (fs, lead, are, shown, is) = is ∙ sym (stream_is fs lead are shown)

  pub view_answers : (names : List (List ℕ)) (r : Request) → HasUpTo (value_of s) (precision_of r)
      → AnswersOnly Factor (Has names job) r (view_answer names (value_of s) r)
  view_answers names (Show D) up_to = (block_there D up_to names, block_only D up_to names)
  view_answers names (Stream D) up_to = (stream_there D up_to names, stream_only D up_to names)
