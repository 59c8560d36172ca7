-- What contracts see of a reader, and what a look of a worker shows.
--     ReaderState      of what the row is and which row it is, how many items were seen last, and how many it was
--         told of
--     state_of reader      what contracts see of it
--     KeepsReader old new      the same reader of the same row, which has seen no less
--     Shows reader r found      an item that was found is the reader's item of degree r, and was seen
use Rattle.std.specs.Prelude.{◌≡◌, ℕ, ◌≤◌, ◌<◌, List, length}
use Rattle.std.specs.Arc.{arc_value}
use Rattle.rows.specs.declared.item.RowItem.{Ghosts}
use Rattle.rows.specs.declared.shared.RowReader.{RowReader}
use Rattle.rows.specs.Readers.{reader_title, reader_name, seen_of, told_of}
use Rattle.stages.specs.Titles.{TitleValue}
use Rattle.stages.specs.Items.{StageItemValue, IsItem}
use Rattle.pipe.specs.declared.look.Found.{Found}
use Rattle.pipe.specs.declared.look.Found.TheVariants.{Item, NotYet, NoMemory}

pub record ReaderState : Type 0 where
  pub title : TitleValue
  pub name : List ℕ
  pub seen : ℕ
  pub told : ℕ

abbrev pub state_of : {g : Ghosts StageItemValue TitleValue} → RowReader StageItemValue TitleValue g → ReaderState
state_of r = record { title = reader_title r; name = reader_name r; seen = length (seen_of r); told = told_of r }

abbrev pub title_of_reader : ReaderState → TitleValue
title_of_reader r = r.title

pub record KeepsReader (old new : ReaderState) : Type 0 where
  pub title : new.title ≡ old.title
  pub name : new.name ≡ old.name
  pub seen : old.seen ≤ new.seen
  pub told : new.told ≡ old.told

abbrev pub Shows : ReaderState → ℕ → Found → Type 0
Shows reader r (Item item) = (r < reader.seen) × IsItem reader.title r (arc_value item)
Shows reader r NotYet = Unit
Shows reader r NoMemory = Unit
