-- What a writer holds back.
--     pending w      the items that readers do not see yet
--     with_items row xs      the row with these items behind it
use Rattle.std.specs.Prelude.{◌++◌, List, drop}
use Rattle.std.specs.declared.sync.Arc.{Arc}
use Rattle.std.specs.declared.alloc.Global.{Global}
use Rattle.rows.specs.Fits.{values}
use Rattle.rows.specs.declared.copies.PublishedRow.{PublishedRow}
use Rattle.left_right.specs.declared.Absorb.{Ghosts}
use Rattle.left_right.specs.declared.writer.Writer.{Writer}

abbrev pub pending : {T O V P A S : Type 0} {g : Ghosts T O S} → Writer T O V P A S g → List O
pending w = drop w.behind w.log.items

abbrev pub with_items : {T H : Type 0} → PublishedRow T H → List (Arc T Global) → PublishedRow T H
with_items row xs = record { title = row.title; items = row.items ++ values xs }
