-- How the stages of a line are extended.
--     CanExtend job to ws rs t      these are the stages of the job and the inner readers of their rows, and the
--         stages can be raised to the degree
--     IsExtended n ws ws' rs'      each stage has n items and has published all, and for each stage behind the first
--         that got one the reader of the row before it has seen n items
--     AreSeen n old new readers      for each stage behind the first that gained an item the reader of the row before it
--         has seen n items
use Rattle.std.specs.Prelude.{◌≡◌, ℕ, suc, ◌^◌, ◌≤◌, ◌<◌, List, length, map, take, slice_index_or, All}
use Rattle.ps_model.specs.AcceptedJob.{IsAccepted}
use Rattle.parts.specs.JobRows.{IsPermitted}
use Rattle.stages.specs.Lines.{titles_of}
use Rattle.stages.specs.States.{StageState}
use Rattle.ps_model.specs.declared.job.JobData.{JobData}
use Rattle.pipe.specs.Looks.{ReaderState, title_of_reader}
use Rattle.pipe.specs.Works.{WorkState, title_of_work, IsShown, count_of, prepared_in}
use Rattle.pipe.specs.Runs.{HasSeen}

pub record CanExtend (job : JobData) (to : ℕ) (ws : List WorkState) (rs : List ReaderState) (t : ℕ) : Type 0 where
  pub titles : map title_of_work ws ≡ titles_of job
  pub inner : map title_of_reader rs ≡ titles_of job
  pub room : All (λ w. to < w.stage.capacity) ws
  pub accepted : IsAccepted job
  pub permitted : IsPermitted (take job.n job.weights) to
  pub small : All (λ w. prepared_in w ≤ 4097) ws
  pub tally : t ≤ 2 ^ 61

pub record IsExtended (n : ℕ) (ws ws' : List WorkState) (rs' : List ReaderState) : Type 0 where
  pub have : All (λ w. n ≤ count_of w) ws'
  pub shown : All IsShown ws'
  pub seen : (s : ℕ) (d : WorkState) (e : ReaderState) → suc s < length ws
      → HasSeen n (slice_index_or ws (suc s) d) (slice_index_or rs' s e)

-- a stage that gained an item took what the reader of the row before it has seen
abbrev pub AreSeen : ℕ → List StageState → List StageState → List ReaderState → Type 0
AreSeen n old new readers = (s : ℕ) (d : StageState) (e : ReaderState) → suc s < length old
    → length (slice_index_or old (suc s) d).items < length (slice_index_or new (suc s) d).items
    → n ≤ (slice_index_or readers s e).seen

abbrev pub SameStage : WorkState → WorkState → Type 0
SameStage w w' = w'.stage ≡ w.stage
