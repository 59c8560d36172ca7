-- What contracts see of the rows that the writer of a stream has seen.
use Rattle.std.specs.Prelude.{map}
use Rattle.std.specs.Arc.{arc_value}
use Rattle.parts.specs.RowsOfParts.{parts_of}
use Rattle.rows.specs.Fits.{values}
use Rattle.session.specs.Seen.{row_state, seen_state}
use Rattle.session.specs.Sessions.{SessionState}
use Rattle.session.specs.declared.seen_rows.SeenRows.{SeenRows}

abbrev pub seen_by : SeenRows → SessionState
seen_by s = seen_state s.names (arc_value s.job) s.ring s.shows_lead
    (map (row_state (λ row. row.title) (λ row. row.capacity) (λ row. values row.items.items) s.ring) s.rows.items)
    (parts_of s.lead.now.items)
