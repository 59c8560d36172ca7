-- What a clause reads of a reader of a shared row, of what a look found, and of what is told.
--     told_name t, told_length t      of which row something is told, and how many items of it were published
--     reader_title r, reader_name r      of what the reader's row is, and which row it is
--     seen_of r      the list that the reader saw last; none before its first look that entered
--     told_of r      the greatest length that it was told of; 0 at first
--     misses_of r      how many of its looks didn't enter; 0 at first
--     IsSameReader r s      all stays but the count of misses
--     found_of l, found_title l      the list that the look found, and of what the row is
--     IsLookOf r l      what the look keeps of its reader, and the reader of it: all but the list
--     IsFresh title name r      a reader of the row with this title and this name, which was told and shown nothing
use Rattle.std.specs.Prelude.{◌≡◌, ℕ, List, [], take}
use Rattle.std.specs.Arc.{arc_value}
use Rattle.left_right.specs.Sides.{view}
use Rattle.rows.specs.Lengths.{name_of}
use Rattle.rows.specs.declared.item.RowItem.{Ghosts}
use Rattle.rows.specs.declared.shared.RowReader.{RowReader}
use Rattle.rows.specs.declared.shared.Looked.{Looked}
use Rattle.rows.specs.declared.shared.Told.{Told}

abbrev pub told_name : Told → List ℕ
told_name t = name_of t.note.table_id

abbrev pub told_length : Told → ℕ
told_length t = t.count

module _ {T H : Type 0} {g : Ghosts T H} where
  abbrev pub reader_title : RowReader T H g → H
  reader_title r = arc_value r.title

  abbrev pub reader_name : RowReader T H g → List ℕ
  reader_name r = name_of r.word.seat.table_id

  abbrev pub seen_of : RowReader T H g → List T
  seen_of r = take r.seen (view r.reader.place).seen

  abbrev pub told_of : RowReader T H g → ℕ
  told_of r = r.told

  abbrev pub misses_of : RowReader T H g → ℕ
  misses_of r = r.misses

  pub record IsSameReader (r s : RowReader T H g) : Type 0 where
    pub title : reader_title s ≡ reader_title r
    pub name : reader_name s ≡ reader_name r
    pub seen : seen_of s ≡ seen_of r
    pub told : told_of s ≡ told_of r

  abbrev pub found_of : Looked T H g → List T
  found_of l = (view l.reading.place).seen

  abbrev pub found_title : Looked T H g → H
  found_title l = arc_value l.title

  pub record IsLookOf (r : RowReader T H g) (l : Looked T H g) : Type 0 where
    pub title : found_title l ≡ reader_title r
    pub name : name_of l.word.seat.table_id ≡ reader_name r
    pub told : l.told ≡ told_of r
    pub misses : l.misses ≡ misses_of r

  pub record IsFresh (title : H) (name : List ℕ) (r : RowReader T H g) : Type 0 where
    pub title_is : reader_title r ≡ title
    pub name_is : reader_name r ≡ name
    pub seen : seen_of r ≡ []
    pub told : told_of r ≡ 0
    pub misses : misses_of r ≡ 0
