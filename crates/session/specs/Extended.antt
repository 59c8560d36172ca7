-- How a line over shared rows is extended beside a writer who follows it, whatever is answered and where all went well.
--     stage_in stage      what contracts see of a stage
--     job_in line, states_in line, published_in line      what contracts see of a line
--     CanRaise job input to workers states readers t      these are the stages of the job with readers of their rows,
--         the input is of that job, and the stages can be raised to the degree by so many workers
--     CanFollow to places s      the readers at these places can be followed up to the degree by what was seen
--     ExtendsLine n old new readers readers' before now      what is there stays, no preparation has more than n and
--         what it had, the tally grew by what was prepared, and each reader has seen no less
--     RaisesLine n old new published readers      each row has the greater of n and what it had, all of it published,
--         and what is new was made of what a reader saw
--     CountsFaults result before now      the count of a sink's faults rose where a write failed, and stands still
--         where all went well
use Rattle.std.specs.Prelude.{◌≡◌, ℕ, ◌+◌, ◌^◌, ◌≤◌, ◌<◌, List, length, map, take, sum_by, Option, Result, IfErr, OnOk}
use Rattle.std.specs.Arc.{arc_value}
use Rattle.std.specs.declared.sync.Arc.{Arc}
use Rattle.std.specs.declared.alloc.Global.{Global}
use Rattle.left_right.specs.declared.Absorb.{Ghosts as AbsorbGhosts}
use Rattle.ps_model.specs.declared.job.JobData.{JobData}
use Rattle.rows.specs.declared.item.RowItem.{Ghosts}
use Rattle.rows.specs.declared.item.RowOut.{Ghosts as RowGhosts}
use Rattle.rows.specs.declared.copies.RowCopy.{RowCopy}
use Rattle.rows.specs.declared.shared.RowWriter.{RowWriter}
use Rattle.rows.specs.Writers.{published_of}
use Rattle.stages.specs.Items.{StageItemValue}
use Rattle.parts.specs.JobRows.{IsPermitted}
use Rattle.stages.specs.Lines.{AreStagesOf, HaveRoom, AreKept, AllReach, NoneExceeds}
use Rattle.stages.specs.Schedules.{lengths_in}
use Rattle.stages.specs.States.{StageState, state_by, prepared_of}
use Rattle.stages.specs.Titles.{TitleValue}
use Rattle.stages.specs.declared.line.Line.{Line}
use Rattle.stages.specs.declared.stage.Stage.{Stage}
use Rattle.pipe.specs.Extends.{AreSeen}
use Rattle.pipe.specs.Looks.{ReaderState, KeepsReader}
use Rattle.pipe.specs.Pairs.{Pairwise}
use Rattle.pipe.specs.SharedLines.{AreReadersOf}
use Rattle.session.specs.Seen.{IsLevel}
use Rattle.session.specs.Sessions.{SessionState}
use Rattle.session.specs.Shared.{ArePlacesOf}
use Rattle.session.specs.Streams.{OnlyRose}
use Rattle.session.specs.declared.stream_fault.StreamFault.{StreamFault}

module _ {S : Type 0} {g : Ghosts StageItemValue TitleValue}
    {a : AbsorbGhosts (RowCopy StageItemValue TitleValue) (Arc StageItemValue Global) S}
    {o : RowGhosts (RowWriter StageItemValue TitleValue S g a) StageItemValue TitleValue} where
  abbrev pub job_in : Line (RowWriter StageItemValue TitleValue S g a) o → JobData
  job_in line = arc_value line.job

  abbrev pub stage_in : Stage (RowWriter StageItemValue TitleValue S g a) o → StageState
  stage_in s = state_by o.capacity o.name o.items s.splitter s.row

  abbrev pub states_in : Line (RowWriter StageItemValue TitleValue S g a) o → List StageState
  states_in line = map stage_in line.stages.items

  abbrev pub published_in : Line (RowWriter StageItemValue TitleValue S g a) o → List ℕ
  published_in line = map (λ s. published_of s.row) line.stages.items

pub record CanRaise (job input : JobData) (to workers : ℕ) (states : List StageState) (readers : List ReaderState)
    (t : ℕ) : Type 0 where
  pub stages : AreStagesOf job states
  pub of_rows : AreReadersOf states readers
  pub room : HaveRoom to states
  pub permitted : IsPermitted (take job.n job.weights) to
  pub source : input ≡ job
  pub some_workers : 1 ≤ workers
  pub few_workers : workers ≤ 64
  pub tally : t ≤ 2 ^ 61

pub record CanFollow (to : ℕ) (places : List (Option ReaderState)) (s : SessionState) : Type 0 where
  pub readers : ArePlacesOf s.job.job places
  pub level : IsLevel 0 s
  pub room : HaveRoom to s.stages
  pub lead : to < length s.lead
  pub low : to ≤ 4095

pub record ExtendsLine (n : ℕ) (old new : List StageState) (readers readers' : List ReaderState) (before now : ℕ) :
    Type 0 where
  pub kept : AreKept old new
  pub within : NoneExceeds n old new
  pub ticks : now + sum_by prepared_of old ≡ before + sum_by prepared_of new
  pub read : Pairwise KeepsReader readers readers'

pub record RaisesLine (n : ℕ) (old new : List StageState) (published : List ℕ) (readers : List ReaderState) : Type 0 where
  pub reach : AllReach n old new
  pub shown : published ≡ lengths_in new
  pub seen : AreSeen n old new readers

pub record CountsFaults {A : Type 0} (result : Result A StreamFault) (before now : ℕ) : Type 0 where
  pub rose : IfErr result (OnlyRose before now)
  pub no_fault : OnOk result (now ≡ before)
  pub never_less : before ≤ now
