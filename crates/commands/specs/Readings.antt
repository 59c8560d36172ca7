-- How far a script is read.
--     Reading      a header so far, or what is known of the job of the whole header, which answers requests
--     state_in r      the state in which the script is
--     spent_of r      the steps that the answers took so far
--     IsReading c r      requests are answered as the command does, and the steps so far are few
--     opened c names job      it answers requests of the job, and none was asked for
--     reading_by c said, reads c result      what a line of a header leads to
--     HasRing ring r      it answers requests of a job with this ring
--     IsAllowed q r      its job permits the request
use Rattle.std.specs.Prelude.{◌≡◌, ℕ, ◌*◌, ◌≤◌, List, length, Result, Ok, Err}
use Rattle.ps_model.specs.declared.job.JobData.{JobData}
use Rattle.parts.specs.JobRows.{IsPermitted, IsRingOf}
use Rattle.parts.specs.declared.rings.Ring.{Ring}
use Rattle.script.specs.Header.{Header}
use Rattle.script.specs.Requests.{precision_of}
use Rattle.script.specs.Script.{State, Has}
use Rattle.script.specs.Script as script
use Rattle.script.specs.declared.header.Said.{Said}
use Rattle.script.specs.declared.header.Said.TheVariants.{Longer, Makes}
use Rattle.script.specs.declared.request.Request.{Request}
use Rattle.script.specs.declared.request.Request.TheVariants.{Show}
use Rattle.session.specs.Precisions.{weights_in}
use Rattle.commands.specs.declared.stop.Stop.{Stop}
use Rattle.commands.specs.declared.command.ScriptCommand.{ScriptCommand}
use Rattle.commands.specs.declared.command.ScriptCommand.TheVariants.{Factor, Expand}
use Rattle.commands.specs.Answering.{FactoringValue, ExpandingValue}

pub data Reading : Type 0 where
  Begun : Header → Reading
  Factors : FactoringValue → Reading
  Inputs : ExpandingValue → Reading

abbrev pub state_in : Reading → State
state_in (Begun h) = script.Begun h
state_in (Factors f) = Has f.names f.job
state_in (Inputs e) = Has e.names e.job

abbrev pub spent_of : Reading → ℕ
spent_of (Begun h) = 0
spent_of (Factors f) = length f.job.roots * f.degrees
spent_of (Inputs e) = 0

abbrev pub IsReading : ScriptCommand → Reading → Type 0
IsReading c (Begun h) = Unit {0}
IsReading c (Factors f) = (c ≡ Factor) × (length f.job.roots ≤ 32) × (f.degrees ≤ 4096)
IsReading c (Inputs e) = c ≡ Expand

abbrev pub opened : ScriptCommand → List (List ℕ) → JobData → Reading
opened Factor names job = Factors (record { names = names; job = job; degrees = 0 })
opened Expand names job = Inputs (record { names = names; job = job })

abbrev pub reading_by : ScriptCommand → Said → Reading
reading_by c (Longer header) = Begun header
reading_by c (Makes job) = opened c job.names job.job

abbrev pub reads : ScriptCommand → Result Said Stop → Result Reading Stop
reads c (Ok said) = Ok (reading_by c said)
reads c (Err e) = Err e

abbrev pub HasRing : Ring → Reading → Type 0
HasRing ring (Begun h) = ⊥
HasRing ring (Factors f) = IsRingOf ring f.job
HasRing ring (Inputs e) = IsRingOf ring e.job

-- of an input there are no streams
abbrev pub IsAllowed : Request → Reading → Type 0
IsAllowed q (Begun h) = ⊥
IsAllowed q (Factors f) = IsPermitted (weights_in f.job) (precision_of q)
IsAllowed q (Inputs e) = IsPermitted (weights_in e.job) (precision_of q) × (q ≡ Show (precision_of q))
