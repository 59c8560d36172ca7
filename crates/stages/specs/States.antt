-- What contracts see of stages, from one call to the next.
--     StageState      the title and the ring, the capacity, the items and the name of the row, and the
--         preparation once it is begun
--     state_by capacity name items splitter row      the state of a stage with this splitter and this row,
--         whose capacity, name and items the three functions tell
--     prepared_of s      how many degrees are prepared
--     KeepsStage old new      title, ring, capacity and name stay, the items begin with the old ones, and no
--         fewer degrees are prepared
--     PutsOne old new      one item more, and as many degrees prepared as there are items
use Rattle.std.specs.Prelude.{◌≡◌, ℕ, ◌+◌, ◌≤◌, List, ◌++◌, length, Option}
use Rattle.parts.specs.declared.rings.Ring.{Ring}
use Rattle.prepare.specs.PrepValue.{PrepValue}
use Rattle.stages.specs.Titles.{TitleValue}
use Rattle.stages.specs.Items.{StageItemValue}
use Rattle.stages.specs.Splitters.{SplitterValue, prepared_in}

pub record StageState : Type 0 where
  pub title : TitleValue
  pub ring : Ring
  pub capacity : ℕ
  pub name : List ℕ
  pub items : List StageItemValue
  pub preparation : Option PrepValue

abbrev pub state_by : {R : Type 0} → (R → ℕ) → (R → List ℕ) → (R → List StageItemValue) → SplitterValue → R → StageState
state_by capacity name items splitter row = record {
  title = splitter.title;
  ring = splitter.ring;
  capacity = capacity row;
  name = name row;
  items = items row;
  preparation = splitter.preparation;
}

abbrev pub prepared_of : StageState → ℕ
prepared_of s = prepared_in s.preparation

pub record KeepsStage (old new : StageState) : Type 0 where
  pub title : new.title ≡ old.title
  pub ring : new.ring ≡ old.ring
  pub capacity : new.capacity ≡ old.capacity
  pub name : new.name ≡ old.name
  pub more : List StageItemValue
  pub items : new.items ≡ old.items ++ more
  pub prepared : prepared_of old ≤ prepared_of new

pub record PutsOne (old new : StageState) : Type 0 where
  pub count : length new.items ≡ length old.items + 1
  pub prepared : prepared_of new ≡ length new.items
