-- Sessions from one call to the next.
--     IsFresh capacity job s      a session of the job in which nothing is there: each row has room for so many items
--     IsFreshShared capacity job s      the same over shared rows, which have names
--     HaveAll n s      each row and the lead have n parts at least
--     KeepsSession old new      the job, the ring and whether the lead is shown stay; of each row and of the lead what
--         is there stays
--     IsRaised n old new      each row, each preparation and the lead have the greater of n and what they had
--     IsWithin n old new      no preparation and not the lead has more than that, and no row more than the greater
--         of n and what was prepared
--     IsEven n s      each row, each preparation and the lead have n
--     prepared_degrees s      how many degrees are prepared, added up over the stages
use Rattle.std.specs.Prelude.{◌≡◌, ℕ, ◌<◌, ◌≤◌, max, List, [], ◌++◌, length, map, replicate, sum_by, slice_index_or}
use Rattle.parts.specs.PartValue.{PartValue}
use Rattle.stages.specs.Lines.{AreFresh, AllHave, AreKept, AllReach, NoneExceeds}
use Rattle.stages.specs.States.{StageState, prepared_of}
use Rattle.intake.specs.Jobs.{JobValue}
use Rattle.session.specs.Sessions.{SessionState}

pub record IsFresh (capacity : ℕ) (job : JobValue) (s : SessionState) : Type 0 where
  pub same_job : s.job ≡ job
  pub stages : AreFresh job.job s.ring (replicate (length job.job.roots) capacity) [] s.stages
  pub lead : s.lead ≡ []

pub record IsFreshShared (capacity : ℕ) (job : JobValue) (s : SessionState) : Type 0 where
  pub same_job : s.job ≡ job
  pub stages : AreFresh job.job s.ring (replicate (length job.job.roots) capacity)
      (map (λ (t : StageState). t.name) s.stages) s.stages
  pub lead : s.lead ≡ []

abbrev pub HaveAll : ℕ → SessionState → Type 0
HaveAll n s = AllHave n s.stages × (n ≤ length s.lead)

pub record KeepsSession (old new : SessionState) : Type 0 where
  pub job : new.job ≡ old.job
  pub ring : new.ring ≡ old.ring
  pub shows_lead : new.shows_lead ≡ old.shows_lead
  pub stages : AreKept old.stages new.stages
  pub more : List PartValue
  pub lead : new.lead ≡ old.lead ++ more

pub record IsRaised (n : ℕ) (old new : SessionState) : Type 0 where
  pub stages : AllReach n old.stages new.stages
  pub lead : length new.lead ≡ max n (length old.lead)

pub record IsWithin (n : ℕ) (old new : SessionState) : Type 0 where
  pub stages : NoneExceeds n old.stages new.stages
  pub items : (s : ℕ) (d : StageState) → s < length old.stages
      → length (slice_index_or new.stages s d).items ≤ max n (prepared_of (slice_index_or old.stages s d))
  pub lead : length new.lead ≤ max n (length old.lead)

pub record IsEven (n : ℕ) (s : SessionState) : Type 0 where
  pub stages : (i : ℕ) (d : StageState) → i < length s.stages
      → (length (slice_index_or s.stages i d).items ≡ n) × (prepared_of (slice_index_or s.stages i d) ≡ n)
  pub lead : length s.lead ≡ n

abbrev pub prepared_degrees : SessionState → ℕ
prepared_degrees s = sum_by prepared_of s.stages
