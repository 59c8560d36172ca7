-- What workers do to stages, to the readers of the stages before them, and to a tally.
--     CanRun to ws rs t      the stages can be raised to the degree
--     Runs n ws ws' rs rs' t t'      whatever happened: each stage has grown to n at most, and
--         each reader has seen no less; the tally has grown by what was prepared
--     IsRaised n ws ws' rs'      each stage has n items and has published all, and what was put was seen
use Rattle.std.specs.Prelude.{◌≡◌, ℕ, ◌+◌, ◌^◌, ◌≤◌, ◌<◌, List, length, take, sum_by, All}
use Rattle.ps_model.specs.AcceptedJob.{IsAccepted}
use Rattle.ps_model.specs.declared.job.JobData.{JobData}
use Rattle.parts.specs.JobRows.{IsPermitted}
use Rattle.pipe.specs.Looks.{ReaderState, KeepsReader}
use Rattle.pipe.specs.Pairs.{Pairwise}
use Rattle.pipe.specs.Works.{WorkState, Works, IsShown, IsBehind, count_of, prepared_in}

pub record CanRun (to : ℕ) (ws : List WorkState) (rs : List ReaderState) (t : ℕ) : Type 0 where
  pub behind : Pairwise IsBehind rs ws
  pub room : All (λ w. to < w.stage.capacity) ws
  pub shown : All IsShown ws
  pub permitted : to < 4096
  pub small : All (λ w. prepared_in w ≤ 4097) ws
  pub few : length ws ≤ 32
  pub tally : t ≤ 2 ^ 61

pub record Runs (n : ℕ) (ws ws' : List WorkState) (rs rs' : List ReaderState) (t t' : ℕ) : Type 0 where
  pub works : Pairwise (Works n) ws ws'
  pub readers : Pairwise KeepsReader rs rs'
  pub ticks : t' + sum_by prepared_in ws ≡ t + sum_by prepared_in ws'

-- the first stage of a job can be raised as well
pub record CanRunFirst (to : ℕ) (job : JobData) (w : WorkState) : Type 0 where
  pub title : w.stage.title ≡ record { job = job; stage = 0 }
  pub accepted : IsAccepted job
  pub permitted : IsPermitted (take job.n job.weights) to
  pub room : to < w.stage.capacity
  pub shown : IsShown w
  pub small : prepared_in w ≤ 4097

-- what a worker does to a first stage and others
pub record RunsFirst (n : ℕ) (w w' : WorkState) (ws ws' : List WorkState) (rs rs' : List ReaderState) (t t' : ℕ) : Type 0 where
  pub first : Works n w w'
  pub works : Pairwise (Works n) ws ws'
  pub readers : Pairwise KeepsReader rs rs'
  pub ticks : t' + prepared_in w + sum_by prepared_in ws ≡ t + prepared_in w' + sum_by prepared_in ws'

pub record IsRaisedFirst (n : ℕ) (w' : WorkState) : Type 0 where
  pub have : n ≤ count_of w'
  pub shown : IsShown w'

-- the reader has seen n items where the stage had fewer
abbrev pub HasSeen : ℕ → WorkState → ReaderState → Type 0
HasSeen n old reader = count_of old < n → n ≤ reader.seen

pub record IsRaised (n : ℕ) (ws ws' : List WorkState) (rs' : List ReaderState) : Type 0 where
  pub have : All (λ w. n ≤ count_of w) ws'
  pub shown : All IsShown ws'
  pub seen : Pairwise (HasSeen n) ws rs'
