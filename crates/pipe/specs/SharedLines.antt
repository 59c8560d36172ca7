-- What contracts see of the readers of the rows of a line.
--     OfReader readers s P      P holds of the reader at place s
--     name_of_reader r      which row the reader is of
--     AreOfRows titles names readers      one reader for each row, in their order, of the same row: of the same name
--         and of the same title
--     AreReadersOf states readers      the same of the rows of stages
--     AreWithin counts states      so many items of each row are there at least
--     IsUnread reader      the reader was shown and told nothing, and missed no look
--     IsNewReader r      what is seen of such a reader
use Rattle.std.specs.Prelude.{◌≡◌, ℕ, ◌≤◌, ◌<◌, List, [], length, map, slice_index, slice_index_or}
use Rattle.std.specs.Coded.{Coded-set, coded_list, coded_ℕ}
use Rattle.rows.specs.declared.item.RowItem.{Ghosts}
use Rattle.rows.specs.declared.shared.RowReader.{RowReader}
use Rattle.rows.specs.Readers.{seen_of, told_of, misses_of}
use Rattle.stages.specs.Lines.{titles-set}
use Rattle.stages.specs.States.{StageState}
use Rattle.stages.specs.Titles.{TitleValue}
use Rattle.pipe.specs.Looks.{ReaderState, title_of_reader}

-- what is there past the end doesn't matter
abbrev pub OfReader : List ReaderState → ℕ → (ReaderState → Type 0) → Type 0
OfReader readers s P = (d : ReaderState) → P (slice_index_or readers s d)

abbrev pub name_of_reader : ReaderState → List ℕ
name_of_reader r = r.name

pub record AreOfRows (titles : List TitleValue) (names : List (List ℕ)) (readers : List ReaderState) : Type 0 where
  pub same_titles : map title_of_reader readers ≡ titles
  pub same_names : map name_of_reader readers ≡ names

abbrev pub AreReadersOf : List StageState → List ReaderState → Type 0
AreReadersOf states readers = AreOfRows (map (λ s. s.title) states) (map (λ s. s.name) states) readers

abbrev pub AreWithin : List ℕ → List StageState → Type 0
AreWithin counts states = (s : ℕ) (d : StageState) → s < length states
    → slice_index counts s ≤ length (slice_index_or states s d).items

pub record IsUnread {T H : Type 0} {g : Ghosts T H} (reader : RowReader T H g) : Type 0 where
  pub seen : seen_of reader ≡ []
  pub told : told_of reader ≡ 0
  pub misses : misses_of reader ≡ 0

abbrev pub IsNewReader : ReaderState → Type 0
IsNewReader r = (r.seen ≡ 0) × (r.told ≡ 0)

names-set : (xs ys : List (List ℕ)) → IsProp (xs ≡ ys)
names-set = Coded-set (coded_list (coded_list coded_ℕ))

-- two proofs that readers are of rows are equal
pub AreOfRows-IsProp : (titles : List TitleValue) (names : List (List ℕ)) (readers : List ReaderState)
    → IsProp (AreOfRows titles names readers)
AreOfRows-IsProp titles names readers = hlevel (titles-set, names-set)
