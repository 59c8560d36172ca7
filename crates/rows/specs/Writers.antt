-- What a clause reads of the writer of a shared row.
--     writer_title w, writer_items w, writer_capacity w, writer_name w      what it has as a row
--     published_of w      how many of its items are published: readers see a beginning of these
--     IsSameRow old new      all stays but what is published
use Rattle.std.specs.Prelude.{◌≡◌, ℕ, List}
use Rattle.std.specs.Arc.{arc_value}
use Rattle.std.specs.declared.sync.Arc.{Arc}
use Rattle.std.specs.declared.alloc.Global.{Global}
use Rattle.left_right.specs.declared.Absorb.{Ghosts as AbsorbGhosts}
use Rattle.rows.specs.Fits.{values}
use Rattle.rows.specs.Lengths.{name_of}
use Rattle.rows.specs.declared.item.RowItem.{Ghosts}
use Rattle.rows.specs.declared.copies.RowCopy.{RowCopy}
use Rattle.rows.specs.declared.shared.RowWriter.{RowWriter}

module _ {T H S : Type 0} {g : Ghosts T H} {a : AbsorbGhosts (RowCopy T H) (Arc T Global) S} where
  abbrev pub writer_title : RowWriter T H S g a → H
  writer_title w = arc_value w.title

  abbrev pub writer_items : RowWriter T H S g a → List T
  writer_items w = values w.items.items

  abbrev pub writer_capacity : RowWriter T H S g a → ℕ
  writer_capacity w = w.capacity

  abbrev pub writer_name : RowWriter T H S g a → List ℕ
  writer_name w = name_of w.word.seat.table_id

  abbrev pub published_of : RowWriter T H S g a → ℕ
  published_of w = w.published

  pub record IsSameRow (old new : RowWriter T H S g a) : Type 0 where
    pub title : writer_title new ≡ writer_title old
    pub items : writer_items new ≡ writer_items old
    pub capacity : writer_capacity new ≡ writer_capacity old
    pub name : writer_name new ≡ writer_name old
