-- The rule of a shared row: of the row that is published, and of what its writer and readers know of it.
--     published_row copy      what a copy holds
--     with_item row x      the row with one item more
--     blank      the view of a new reader, and of a note that is spent: no title, and nothing seen
--     sees_all row      the view of one who sees the whole row
--     title_note v      the view of a note of the title: nothing seen
--     with_title v w      v with the title of w
--     Knows row v      a beginning of the row was seen, and v is blank or has the row's title
--     IsKept fits row views      the rule: every item fits the row's title at its place, there are at most 4096, and
--         each view is of the row
--     Grows fits old new      the row becomes a longer one of the same title, whose items fit
--     Sees fits v row w      who has the view v comes to see this row, and has the view w then
use Rattle.std.specs.Prelude.{◌≡◌, ℕ, ◌≤◌, ◌⊎◌, ◌++◌, ◌∷◌, [], List, length, Some, None}
use mathlib.Core.Option.{some}
use lib.ListN.{get_elem?}
use Rattle.std.specs.declared.sync.Arc.{Arc}
use Rattle.std.specs.declared.alloc.Global.{Global}
use Rattle.std.specs.Arc.{arc_value}
use Rattle.rows.specs.Fits.{AllFit, values}
use Rattle.rows.specs.Prefixes.{IsPrefix}
use Rattle.rows.specs.declared.copies.PublishedRow.{PublishedRow}
use Rattle.rows.specs.declared.copies.RowCopy.{RowCopy}
use Rattle.rows.specs.declared.copies.RowView.{RowView}

module _ {T H : Type 0} where
  abbrev pub published_row : RowCopy T H → PublishedRow T H
  published_row copy = record { title = arc_value copy.title; items = values copy.items.items }

  abbrev pub with_item : PublishedRow T H → Arc T Global → PublishedRow T H
  with_item row x = record row { items = row.items ++ arc_value x ∷ [] }

  abbrev pub blank : RowView T H
  blank = record { title = None; seen = [] }

  abbrev pub sees_all : PublishedRow T H → RowView T H
  sees_all row = record { title = Some row.title; seen = row.items }

  abbrev pub title_note : RowView T H → RowView T H
  title_note v = record { title = v.title; seen = [] }

  abbrev pub with_title : RowView T H → RowView T H → RowView T H
  with_title v w = record { title = w.title; seen = v.seen }

  pub record Knows (row : PublishedRow T H) (v : RowView T H) : Type 0 where
    pub prefix : IsPrefix v.seen row.items
    pub named : (v ≡ blank) ⊎ (v.title ≡ Some row.title)

  pub record IsKept (fits : H → ℕ → T → Type 0) (row : PublishedRow T H) (views : List (RowView T H)) : Type 0 where
    pub fit : AllFit (fits row.title) row.items
    pub short : length row.items ≤ 4096
    pub each_view : (place : ℕ) (v : RowView T H) → get_elem? views place ≡ some v → Knows row v

  pub record Grows (fits : H → ℕ → T → Type 0) (old new : PublishedRow T H) : Type 0 where
    pub same_title : new.title ≡ old.title
    pub longer : IsPrefix old.items new.items
    pub fit : AllFit (fits new.title) new.items
    pub short : length new.items ≤ 4096

  pub record Sees (fits : H → ℕ → T → Type 0) (v : RowView T H) (row : PublishedRow T H) (w : RowView T H) : Type 0 where
    pub all_seen : w ≡ sees_all row
    pub later : IsPrefix v.seen row.items
    pub same_title : (h : H) → v.title ≡ Some h → row.title ≡ h
    pub fit : AllFit (fits row.title) row.items
    pub short : length row.items ≤ 4096
