-- The stages of a line, as a list of what contracts see of each.
--     OfStage states s P      P holds of the stage s
--     titles_of job      the titles of the stages of a job, one for each root; none of no root
--     AreFresh job ring capacities names states      the stages of a new line: nothing is prepared or put, and the
--         rows have these capacities and names
--     HaveRoom to states      each row has room for the items up to the degree
--     AllHave n states      each row has n items at least
--     AreFalling states      no row has more items than the one before it
--     AreKept old new      the same stages: each keeps its title, its ring and its row, and what is in it
--     AllReach n old new      each row and each preparation has the greater of n and what it had
--     NoneExceeds n old new      no preparation has more than the greater of n and what it had
--     AreStagesOf job states      the job can be factored, and these are its stages in their order
--     Grows n old new      a stage keeps what it has and grows to n at most; where it has n items already it
--         stays as it is
--     AllGrow n old new      so does each stage
--     AreSameBut i old new      each stage but that at place i stays as it is
use Rattle.std.specs.Prelude.{◌≡◌, ◌≢◌, ℕ, ◌≤◌, ◌<◌, max, List, [], ◌∷◌, suc, length, slice_index_or, slice_index, None}
use Rattle.std.specs.Coded.{Coded-set, coded_list}
use Rattle.ps_model.specs.AcceptedJob.{IsAccepted}
use Rattle.ps_model.specs.declared.job.JobData.{JobData}
use Rattle.ps_model.specs.declared.job.Root.{Root}
use Rattle.parts.specs.declared.rings.Ring.{Ring}
use Rattle.stages.specs.Titles.{TitleValue, title_code}
use Rattle.stages.specs.States.{StageState, prepared_of, KeepsStage}

-- the titles of the stages, from the stage s on
abbrev pub titles_from : JobData → ℕ → List Root → List TitleValue
titles_from job s [] = []
titles_from job s (root ∷ roots) = record { job = job; stage = s } ∷ titles_from job (suc s) roots

abbrev pub titles_of : JobData → List TitleValue
titles_of job = titles_from job 0 job.roots

-- what is there past the end doesn't matter
abbrev pub OfStage : List StageState → ℕ → (StageState → Type 0) → Type 0
OfStage states s P = (d : StageState) → P (slice_index_or states s d)

-- two proofs that titles are the same are equal
pub titles-set : (xs ys : List TitleValue) → IsProp (xs ≡ ys)
titles-set = Coded-set (coded_list title_code)

pub record AreFresh (job : JobData) (ring : Ring) (capacities : List ℕ) (names : List (List ℕ))
    (states : List StageState) : Type 0 where
  pub count : length states ≡ length job.roots
  pub each : (s : ℕ) (d : StageState) → s < length states → slice_index_or states s d ≡ record {
    title = record { job = job; stage = s };
    ring = ring;
    capacity = slice_index capacities s;
    name = slice_index_or names s [];
    items = [];
    preparation = None;
  }

abbrev pub HaveRoom : ℕ → List StageState → Type 0
HaveRoom to states = (s : ℕ) (d : StageState) → s < length states → to < (slice_index_or states s d).capacity

abbrev pub AllHave : ℕ → List StageState → Type 0
AllHave n states = (s : ℕ) (d : StageState) → s < length states → n ≤ length (slice_index_or states s d).items

abbrev pub AreFalling : List StageState → Type 0
AreFalling states = (s : ℕ) (d : StageState) → suc s < length states →
    length (slice_index_or states (suc s) d).items ≤ length (slice_index_or states s d).items

pub record AreKept (old new : List StageState) : Type 0 where
  pub count : length new ≡ length old
  pub each : (s : ℕ) (d : StageState) → s < length old → KeepsStage (slice_index_or old s d) (slice_index_or new s d)

abbrev pub AllReach : ℕ → List StageState → List StageState → Type 0
AllReach n old new = (s : ℕ) (d : StageState) → s < length old →
    (length (slice_index_or new s d).items ≡ max n (length (slice_index_or old s d).items))
    × (prepared_of (slice_index_or new s d) ≡ max n (prepared_of (slice_index_or old s d)))

abbrev pub NoneExceeds : ℕ → List StageState → List StageState → Type 0
NoneExceeds n old new = (s : ℕ) (d : StageState) → s < length old →
    prepared_of (slice_index_or new s d) ≤ max n (prepared_of (slice_index_or old s d))

pub record AreStagesOf (job : JobData) (states : List StageState) : Type 0 where
  pub accepted : IsAccepted job
  pub count : length states ≡ length job.roots
  pub title : (s : ℕ) (d : StageState) → s < length states
      → (slice_index_or states s d).title ≡ record { job = job; stage = s }

pub record Grows (n : ℕ) (old new : StageState) : Type 0 where
  pub kept : KeepsStage old new
  pub items : length new.items ≤ max n (length old.items)
  pub prepared : prepared_of new ≤ max n (prepared_of old)
  pub there : n ≤ length old.items → new ≡ old

pub record AllGrow (n : ℕ) (old new : List StageState) : Type 0 where
  pub count : length new ≡ length old
  pub each : (s : ℕ) (d : StageState) → s < length old → Grows n (slice_index_or old s d) (slice_index_or new s d)

abbrev pub AreSameBut : ℕ → List StageState → List StageState → Type 0
AreSameBut i old new = (s : ℕ) (d : StageState) → s ≢ i → slice_index_or new s d ≡ slice_index_or old s d
