-- What is seen of a session over shared rows.
--     state_of s      its state
--     outer_of s      the readers at its places
use Rattle.std.specs.Prelude.{List, Option, map}
use Rattle.std.specs.declared.sync.Arc.{Arc}
use Rattle.std.specs.declared.alloc.Global.{Global}
use Rattle.left_right.specs.declared.Absorb.{Ghosts as AbsorbGhosts}
use Rattle.parts.specs.RowsOfParts.{parts_of}
use Rattle.rows.specs.declared.item.RowItem.{Ghosts}
use Rattle.rows.specs.declared.item.RowOut.{Ghosts as RowGhosts}
use Rattle.rows.specs.declared.copies.RowCopy.{RowCopy}
use Rattle.rows.specs.declared.shared.RowWriter.{RowWriter}
use Rattle.stages.specs.Items.{StageItemValue}
use Rattle.stages.specs.Titles.{TitleValue}
use Rattle.pipe.specs.Looks.{ReaderState}
use Rattle.session.specs.Extended.{states_in}
use Rattle.session.specs.Sessions.{SessionState}
use Rattle.session.specs.Shared.{place_of}
use Rattle.session.specs.declared.sessions.Session.{Session}

module _ {S : Type 0} {g : Ghosts StageItemValue TitleValue}
    {a : AbsorbGhosts (RowCopy StageItemValue TitleValue) (Arc StageItemValue Global) S}
    {o : RowGhosts (RowWriter StageItemValue TitleValue S g a) StageItemValue TitleValue} where
  abbrev pub state_of : Session (RowWriter StageItemValue TitleValue S g a) o → SessionState
  state_of s = record {
    job = s.job;
    ring = s.ring;
    shows_lead = s.shows_lead;
    stages = states_in s.line;
    lead = parts_of s.lead.items;
  }

  abbrev pub outer_of : Session (RowWriter StageItemValue TitleValue S g a) o → List (Option ReaderState)
  outer_of s = map place_of s.outer.items
