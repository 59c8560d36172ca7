-- What the writer of a stream did.
--     IsBegun old new text      a beginning of the text was added to what was written
--     Streamed result old new text      Ok: the text was added; a fault: a beginning of it
--     StreamsJob names job D result old new      the same of the stream up to degree D of the job's factors, and of
--         its lead where it is shown
--     WritesDegree names job r result old new      the same of the lines of degree r
--     OnlyRose before now fault      a failed write comes only where the count of faults rose
--     outcome_of written raised      the fault of the writer, and else that memory was refused where it was so
use Rattle.std.specs.Prelude.{◌≡◌, ℕ, ◌≤◌, List, ◌++◌, length, take, Option, Some, None, Result, Ok, Err, OnOk, OnErr}
use Rattle.ps_model.specs.declared.job.JobData.{JobData}
use Rattle.ps_model.specs.Job.{job_ring, IsFactors}
use Rattle.ps_model.specs.Lead.{IsShownLead}
use Rattle.ps_model.specs.SeriesRing.{Poly}
use Rattle.ps_model.specs.StreamText.{degree_text, stream_text}
use Rattle.ports.specs.Bytes.{WritesAll}
use Rattle.ports.specs.Faults.{Rose}
use Rattle.session.specs.declared.stream_fault.StreamFault.{StreamFault}
use Rattle.session.specs.declared.stream_fault.StreamFault.TheVariants.{Write, OutOfMemory}

abbrev pub IsBegun : Option (List ℕ) → Option (List ℕ) → List ℕ → Type 0
IsBegun None new text = new ≡ None
IsBegun (Some bytes) new text = (n : ℕ) × (n ≤ length text) × (new ≡ Some (bytes ++ take n text))

pub record Streamed {A E : Type 0} (result : Result A E) (old new : Option (List ℕ)) (text : List ℕ) : Type 0 where
  pub ok : OnOk result (WritesAll old new text)
  pub begun : OnErr result (IsBegun old new text)

abbrev pub StreamsJob : {A E : Type 0} → List (List ℕ) → JobData → ℕ → Result A E → Option (List ℕ) → Option (List ℕ)
    → Type 0
StreamsJob names job D result old new =
    (fs : List (Poly (job_ring job))) (lead : Option (Poly (job_ring job)))
    → IsFactors job D fs → IsShownLead (job_ring job) D job.expr lead
    → Streamed result old new (stream_text (job_ring job) names lead job.roots fs D)

abbrev pub WritesDegree : {A E : Type 0} → List (List ℕ) → JobData → ℕ → Result A E → Option (List ℕ) → Option (List ℕ)
    → Type 0
WritesDegree names job r result old new =
    (fs : List (Poly (job_ring job))) (lead : Option (Poly (job_ring job)))
    → IsFactors job r fs → IsShownLead (job_ring job) r job.expr lead
    → Streamed result old new (degree_text (job_ring job) names lead job.roots fs r)

abbrev pub OnlyRose : ℕ → ℕ → StreamFault → Type 0
OnlyRose before now Write = Rose before now
OnlyRose before now OutOfMemory = Unit {0}

abbrev pub outcome_of : {A E : Type 0} → Result A StreamFault → Result A E → Result A StreamFault
outcome_of (Err fault) raised = Err fault
outcome_of (Ok x) (Err e) = Err OutOfMemory
outcome_of (Ok x) (Ok y) = Ok x
