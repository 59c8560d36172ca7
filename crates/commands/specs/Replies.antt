-- What answers the requests of a script.
--     IsBlock names job D text      the block of precision D: the job's factors, and its lead where it is shown
--     IsStream names job D text      the stream of the same up to degree D
--     IsInput names job D text      the block of the job's input
--     Answers c s r text      the text answers the request in this state, by the command; before there is a job nothing
--         does
use Rattle.std.specs.Prelude.{◌≡◌, ℕ, List, Option}
use Rattle.ps_model.specs.declared.job.JobData.{JobData}
use Rattle.ps_model.specs.BlockText.{block_text}
use Rattle.ps_model.specs.InputText.{input_text}
use Rattle.ps_model.specs.Job.{job_ring, IsFactors}
use Rattle.ps_model.specs.Lead.{IsShownLead}
use Rattle.ps_model.specs.SeriesRing.{Poly}
use Rattle.ps_model.specs.StreamText.{stream_text}
use Rattle.ps_model.specs.Tree.{formal_degree}
use Rattle.ps_model.specs.Value.{IsValue}
use Rattle.script.specs.Script.{State, Begun, Has}
use Rattle.script.specs.declared.request.Request.{Request}
use Rattle.script.specs.declared.request.Request.TheVariants.{Show, Stream}
use Rattle.commands.specs.declared.command.ScriptCommand.{ScriptCommand}
use Rattle.commands.specs.declared.command.ScriptCommand.TheVariants.{Factor, Expand}

abbrev pub IsBlock : List (List ℕ) → JobData → ℕ → List ℕ → Type 0
IsBlock names job D text =
    (fs : List (Poly (job_ring job))) × (lead : Option (Poly (job_ring job)))
    × IsFactors job D fs × IsShownLead (job_ring job) D job.expr lead
    × (text ≡ block_text (job_ring job) names lead job.roots fs D)

abbrev pub IsStream : List (List ℕ) → JobData → ℕ → List ℕ → Type 0
IsStream names job D text =
    (fs : List (Poly (job_ring job))) × (lead : Option (Poly (job_ring job)))
    × IsFactors job D fs × IsShownLead (job_ring job) D job.expr lead
    × (text ≡ stream_text (job_ring job) names lead job.roots fs D)

abbrev pub IsInput : List (List ℕ) → JobData → ℕ → List ℕ → Type 0
IsInput names job D text =
    (v : Poly (job_ring job)) × IsValue (job_ring job) D job.expr v
    × (text ≡ input_text (job_ring job) names (formal_degree job.expr) v D)

abbrev pub JobAnswers : ScriptCommand → List (List ℕ) → JobData → Request → List ℕ → Type 0
JobAnswers Factor names job (Show D) text = IsBlock names job D text
JobAnswers Factor names job (Stream D) text = IsStream names job D text
JobAnswers Expand names job (Show D) text = IsInput names job D text
JobAnswers Expand names job (Stream D) text = ⊥

abbrev pub Answers : ScriptCommand → State → Request → List ℕ → Type 0
Answers c (Begun h) r text = ⊥
Answers c (Has names job) r text = JobAnswers c names job r text
