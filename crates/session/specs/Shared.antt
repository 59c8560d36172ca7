-- What contracts see of the readers of a session over shared rows.
--     place_of place      what is seen of the reader at a place, where there is one
--     reader_at places i      the reader at place i; none past the end
--     IsReaderOf stage reader      the reader is of the stage's row
--     IsShared states      each row has a name: it is shared
--     AreRead states readers places      one of the readers is of each row, and so is what stands at its place
--     HaveRead states readers places      where the rows are shared they are read so
--     IsPlaceOf job i place      there stands a reader of the row of root i of the job
--     ArePlacesOf job places      so it is at each place, one for each root
--     HasReaders n places      at each of the first n places stands a reader
--     AreUnseen places      no look of the readers there found an item
--     IsTaken i old new      no reader stands at place i; at each other place is what was there
--     KeepsPlace old new      at a place stands the same reader, which has seen no less, or none as before
--     KeepsPublished old new      of no row less is published
use Rattle.std.specs.Prelude.{◌≡◌, ◌≢◌, ℕ, ◌<◌, ◌≤◌, List, [], length, slice_index, slice_index_or, Option, Some, None}
use Rattle.std.specs.Coded.{Coded-set, coded_list, coded_ℕ, →_prop}
use Rattle.std.proofs.Math.Nat.{ℕ_set}
use Rattle.ps_model.specs.declared.job.JobData.{JobData}
use Rattle.rows.specs.declared.item.RowItem.{Ghosts}
use Rattle.rows.specs.declared.shared.RowReader.{RowReader}
use Rattle.stages.specs.Items.{StageItemValue}
use Rattle.stages.specs.States.{StageState}
use Rattle.stages.specs.Titles.{TitleValue, title_code}
use Rattle.pipe.specs.Looks.{ReaderState, state_of, KeepsReader}
use Rattle.pipe.specs.SharedLines.{AreReadersOf, AreOfRows-IsProp}

abbrev pub place_of : {g : Ghosts StageItemValue TitleValue} → Option (RowReader StageItemValue TitleValue g)
    → Option ReaderState
place_of None = None
place_of (Some reader) = Some (state_of reader)

abbrev pub reader_at : List (Option ReaderState) → ℕ → Option ReaderState
reader_at places i = slice_index_or places i None

pub record IsReaderOf (stage : StageState) (reader : ReaderState) : Type 0 where
  pub title : reader.title ≡ stage.title
  pub name : reader.name ≡ stage.name

-- a row of one's own has no name
abbrev pub IsShared : List StageState → Type 0
IsShared states = (s : ℕ) (d : StageState) → s < length states → (slice_index_or states s d).name ≢ []

pub record AreRead (states : List StageState) (readers : List ReaderState) (places : List (Option ReaderState)) :
    Type 0 where
  pub inner : AreReadersOf states readers
  pub count : length places ≡ length states
  pub outer : (i : ℕ) (d : StageState) (reader : ReaderState) → i < length states
      → reader_at places i ≡ Some reader → IsReaderOf (slice_index_or states i d) reader

abbrev pub HaveRead : List StageState → List ReaderState → List (Option ReaderState) → Type 0
HaveRead states readers places = IsShared states → AreRead states readers places

pub record IsPlaceOf (job : JobData) (i : ℕ) (place : Option ReaderState) : Type 0 where
  pub reader : ReaderState
  pub there : place ≡ Some reader
  pub title : reader.title ≡ record { job = job; stage = i }

pub record ArePlacesOf (job : JobData) (places : List (Option ReaderState)) : Type 0 where
  pub count : length places ≡ length job.roots
  pub each : (i : ℕ) → i < length places → IsPlaceOf job i (reader_at places i)

abbrev pub HasReaders : ℕ → List (Option ReaderState) → Type 0
HasReaders n places = (i : ℕ) → i < n → reader_at places i ≢ None

abbrev pub AreUnseen : List (Option ReaderState) → Type 0
AreUnseen places = (i : ℕ) (reader : ReaderState) → reader_at places i ≡ Some reader → reader.seen ≡ 0

pub record IsTaken (i : ℕ) (old new : List (Option ReaderState)) : Type 0 where
  pub taken : reader_at new i ≡ None
  pub others : (j : ℕ) → j ≢ i → reader_at new j ≡ reader_at old j

abbrev pub KeepsPlace : Option ReaderState → Option ReaderState → Type 0
KeepsPlace None None = Unit {0}
KeepsPlace None (Some reader) = ⊥
KeepsPlace (Some reader) None = ⊥
KeepsPlace (Some old) (Some new) = KeepsReader old new

abbrev pub KeepsPublished : List ℕ → List ℕ → Type 0
KeepsPublished old new = (s : ℕ) → slice_index old s ≤ slice_index new s

title-IsSet : IsSet TitleValue
title-IsSet = Coded-set title_code

name-IsSet : IsSet (List ℕ)
name-IsSet = Coded-set (coded_list coded_ℕ)

AreRead-IsProp : (states : List StageState) (readers : List ReaderState) (places : List (Option ReaderState))
    → IsProp (AreRead states readers places)
AreRead-IsProp states readers places = hlevel (AreOfRows-IsProp, ℕ_set, title-IsSet, name-IsSet)

-- two proofs that rows are read so are equal
pub HaveRead-IsProp : (states : List StageState) (readers : List ReaderState) (places : List (Option ReaderState))
    → IsProp (HaveRead states readers places)
HaveRead-IsProp states readers places = →_prop (AreRead-IsProp states readers places)
