-- What was seen of the rows of a job.
--     row_state ring row      the row as that of a stage of which nothing more is known
--     seen_state names job ring shows_lead rows lead      a session that has what was seen
--     IsLevel n s      each row has n items
--     KeepsSeen old new      the job and the lead stay, and of each row the room
use Rattle.std.specs.Prelude.{◌≡◌, ℕ, ◌<◌, Bool, List, [], length, slice_index_or, None}
use Rattle.ps_model.specs.declared.job.JobData.{JobData}
use Rattle.parts.specs.PartValue.{PartValue}
use Rattle.parts.specs.declared.rings.Ring.{Ring}
use Rattle.stages.specs.Items.{StageItemValue}
use Rattle.stages.specs.States.{StageState}
use Rattle.stages.specs.Titles.{TitleValue}
use Rattle.session.specs.Sessions.{SessionState}

abbrev pub row_state : {R : Type 0} → (R → TitleValue) → (R → ℕ) → (R → List StageItemValue) → Ring → R → StageState
row_state title capacity items ring row = record {
  title = title row;
  ring = ring;
  capacity = capacity row;
  name = [];
  items = items row;
  preparation = None;
}

abbrev pub seen_state : List (List ℕ) → JobData → Ring → Bool → List StageState → List PartValue → SessionState
seen_state names job ring shows_lead stages lead = record {
  job = record { names = names; job = job };
  ring = ring;
  shows_lead = shows_lead;
  stages = stages;
  lead = lead;
}

abbrev pub IsLevel : ℕ → SessionState → Type 0
IsLevel n s = (i : ℕ) (d : StageState) → i < length s.stages → length (slice_index_or s.stages i d).items ≡ n

pub record KeepsSeen (old new : SessionState) : Type 0 where
  pub job : new.job ≡ old.job
  pub lead : new.lead ≡ old.lead
  pub count : length new.stages ≡ length old.stages
  pub capacity : (i : ℕ) (d : StageState) → i < length old.stages
      → (slice_index_or new.stages i d).capacity ≡ (slice_index_or old.stages i d).capacity
