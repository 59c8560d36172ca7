-- What contracts see of a session.
--     SessionState      the job with its names, the ring, whether the lead is shown, what is seen of each stage,
--         and the parts of the lead
--     factor_rows stage      the rows of the stage's factor, one for each item
--     value_of s      what a writer of blocks sees: of no stage no rows
--     IsSession s      the ring is the job's, whose variables are named; the lead is shown where it isn't known to be
--         1; the stages are the job's, and each row has room for the permitted degrees; the parts of the lead are
--         those of the degrees from 0 on
--     HasItems s      each item of each row fits the job, the stage and its place
use Rattle.std.specs.Prelude.{ℕ, ◌<◌, ◌≤◌, ◌↔◌, Bool, IsTrue, List, length, map, slice_index_or}
use Rattle.ps_model.specs.Job.{job_ring}
use Rattle.ps_model.specs.Lead.{IsLeadShown}
use Rattle.parts.specs.declared.rings.Ring.{Ring}
use Rattle.parts.specs.JobRows.{IsRingOf, IsPermitted}
use Rattle.parts.specs.PartValue.{PartValue}
use Rattle.rows.specs.Fits.{AllFit}
use Rattle.stages.specs.Items.{IsItem}
use Rattle.stages.specs.Lines.{AreStagesOf, HaveRoom}
use Rattle.stages.specs.States.{StageState}
use Rattle.expr_reader.specs.NameLists.{as_names}
use Rattle.intake.specs.Jobs.{JobValue}
use Rattle.printer.specs.View.{BlockValue}
use Rattle.session.specs.Leads.{AreLeadParts}
use Rattle.session.specs.Precisions.{weights_in}

pub record SessionState : Type 0 where
  pub job : JobValue
  pub ring : Ring
  pub shows_lead : Bool
  pub stages : List StageState
  pub lead : List PartValue

abbrev pub factor_rows : StageState → List (List PartValue)
factor_rows stage = map (λ item. item.factor) stage.items

abbrev pub value_of : SessionState → BlockValue
value_of s = record {
  ring = s.ring;
  roots = s.job.job.roots;
  rows = map factor_rows s.stages;
  lead = s.lead;
  shows_lead = s.shows_lead;
}

pub record IsSession (s : SessionState) : Type 0 where
  pub ring_is : IsRingOf s.ring s.job.job
  pub named : s.job.job.n ≤ length (as_names s.job.names)
  pub shown : IsTrue s.shows_lead ↔ IsLeadShown (job_ring s.job.job) s.job.job.expr
  pub of_job : AreStagesOf s.job.job s.stages
  pub room : (d : ℕ) → IsPermitted (weights_in s.job.job) d → HaveRoom d s.stages
  pub lead : AreLeadParts s.job.job s.lead
  pub few : length s.lead ≤ 4096

pub record HasItems (s : SessionState) : Type 0 where
  pub each : (i : ℕ) (d : StageState) → i < length s.stages
      → AllFit (IsItem (record { job = s.job.job; stage = i })) (slice_index_or s.stages i d).items
