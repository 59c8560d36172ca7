use Rattle.std.proofs.Common.{◌≡◌, ◌≤◌, map, vec_capacity, length, All}
use Rattle.std.specs.Arc.{arc_value}
use Rattle.rows.specs.Writers.{writer_title, writer_name}
use Rattle.pipe.specs.Looks.{state_of}
use Rattle.pipe.specs.Made.{AreNewRows}
use Rattle.pipe.specs.SharedLines.{AreOfRows, IsUnread}
use Rattle.pipe.proofs.make.make_rows.Given as goal

abbrev pub invariant-loop-stage : goal.invariant-loop-stage
invariant-loop-stage g l = record {
  rows : AreNewRows (arc_value l.job) l.capacity l.stage l.rows.items;
  inner : AreOfRows (map writer_title l.rows.items) (map writer_name l.rows.items) (map state_of l.inner.items);
  outer : AreOfRows (map writer_title l.rows.items) (map writer_name l.rows.items) (map state_of l.outer.items);
  inner_unread : All IsUnread l.inner.items;
  outer_unread : All IsUnread l.outer.items;
  inner_count : length l.inner.items ≡ l.stage;
  outer_count : length l.outer.items ≡ l.stage;
  rows_room : length (arc_value l.job).roots ≤ vec_capacity l.rows;
  inner_room : length (arc_value l.job).roots ≤ vec_capacity l.inner;
  outer_room : length (arc_value l.job).roots ≤ vec_capacity l.outer;
}
