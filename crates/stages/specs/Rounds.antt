-- Rounds over the stages of a line: in each one, every stage that can puts its next item.
--     row_of upstream      the row of parts that a stage takes
--     IsReady to states s d      stage s lacks an item of a degree up to `to`, and the stage before it has the one
--         that its next item is made of; d stands for what is past the end
--     LacksFirst to states s      stage s lacks such an item, and no stage before it does
--     SomeLacks to states      some stage is the first one that does
--     Planned to job states s d planned      a stage that is ready takes the row of its next degree, any other one
--         takes nothing
--     IsPlan to job states plan      so it is for each stage
--     IsRound to old new      each stage that was ready has one item more, and all others stayed as they were
--     CanTake planned s      what is planned for a stage is its next row, and it has room for an item
--     CanAdvance plan states      so it is for each one of some stages
--     Moves planned old new      a stage grows by one item at most, and stays as it is where nothing is planned
--     AreMoved plan old new      so do all of them
--     HasPut planned old new      it has one item more where one is planned
--     HavePut plan old new      so have all of them
use Rattle.std.specs.Prelude.{◌≡◌, ℕ, suc, ◌+◌, ◌<◌, ◌≤◌, List, length, slice_index_or, Option, Some, None, ⊤}
use Rattle.std.specs.Arc.{arc_value}
use Rattle.ps_model.specs.declared.job.JobData.{JobData}
use Rattle.parts.specs.PartValue.{PartValue}
use Rattle.parts.specs.RowsOfParts.{parts_of}
use Rattle.stages.specs.declared.upstream.Upstream.{Upstream}
use Rattle.stages.specs.declared.upstream.Upstream.TheVariants.{Row, Item}
use Rattle.stages.specs.Slices.{IsUpstream}
use Rattle.stages.specs.States.{StageState}
use Rattle.stages.specs.Lines.{Grows}

-- of the polynomial, or of what the stage before leaves
abbrev pub row_of : Upstream → List PartValue
row_of (Row row) = parts_of row.items
row_of (Item item) = (arc_value item).left

abbrev pub items_at : List StageState → ℕ → StageState → ℕ
items_at states s d = length (slice_index_or states s d).items

abbrev pub IsReady : ℕ → List StageState → ℕ → StageState → Type 0
IsReady to states s d = (items_at states s d ≤ to)
    × ((k : ℕ) → s ≡ suc k → items_at states s d < items_at states k d)

pub record LacksFirst (to : ℕ) (states : List StageState) (s : ℕ) : Type 0 where
  pub within : s < length states
  pub lacks : (d : StageState) → items_at states s d ≤ to
  pub before : (k : ℕ) (d : StageState) → k < s → to < items_at states k d

abbrev pub SomeLacks : ℕ → List StageState → Type 0
SomeLacks to states = (s : ℕ) × LacksFirst to states s

abbrev pub Planned : ℕ → JobData → List StageState → ℕ → StageState → Option Upstream → Type 0
Planned to job states s d None = IsReady to states s d → ⊥
Planned to job states s d (Some upstream) =
    IsReady to states s d × IsUpstream job s (items_at states s d) (row_of upstream)

pub record IsPlan (to : ℕ) (job : JobData) (states : List StageState) (plan : List (Option Upstream)) : Type 0 where
  pub count : length plan ≡ length states
  pub each : (s : ℕ) (d : StageState) → s < length states
      → Planned to job states s d (slice_index_or plan s None)

pub record IsRound (to : ℕ) (old new : List StageState) : Type 0 where
  pub ready : (s : ℕ) (d : StageState) → s < length old → IsReady to old s d → items_at new s d ≡ items_at old s d + 1
  pub others : (s : ℕ) (d : StageState) → s < length old → (IsReady to old s d → ⊥)
      → slice_index_or new s d ≡ slice_index_or old s d

abbrev pub CanTake : Option Upstream → StageState → Type 0
CanTake None s = ⊤
CanTake (Some upstream) s =
    (length s.items < s.capacity) × IsUpstream s.title.job s.title.stage (length s.items) (row_of upstream)

pub record CanAdvance (plan : List (Option Upstream)) (states : List StageState) : Type 0 where
  pub count : length plan ≡ length states
  pub few : length states ≤ 32
  pub each : (s : ℕ) (d : StageState) → s < length states
      → CanTake (slice_index_or plan s None) (slice_index_or states s d)

pub record Moves (planned : Option Upstream) (old new : StageState) : Type 0 where
  pub grows : Grows (length old.items + 1) old new
  pub others : planned ≡ None → new ≡ old

pub record AreMoved (plan : List (Option Upstream)) (old new : List StageState) : Type 0 where
  pub count : length new ≡ length old
  pub each : (s : ℕ) (d : StageState) → s < length old
      → Moves (slice_index_or plan s None) (slice_index_or old s d) (slice_index_or new s d)

abbrev pub HasPut : Option Upstream → StageState → StageState → Type 0
HasPut None old new = ⊤
HasPut (Some upstream) old new = length new.items ≡ length old.items + 1

abbrev pub HavePut : List (Option Upstream) → List StageState → List StageState → Type 0
HavePut plan old new = (s : ℕ) (d : StageState) → s < length old
    → HasPut (slice_index_or plan s None) (slice_index_or old s d) (slice_index_or new s d)
