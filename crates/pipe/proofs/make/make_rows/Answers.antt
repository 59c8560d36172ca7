use Rattle.std.proofs.Common.{arith}
use Rattle.rows.specs.Writers.{writer_title, writer_name}
use Rattle.pipe.specs.Looks.{state_of}
use Rattle.pipe.specs.SharedLines.{IsUnread}
use Rattle.pipe.proofs.Making.{new_rows_more, of_rows_more, all_pushed, unread, one_more}
use Rattle.pipe.proofs.make.make_rows.Goals as goal

pub loop-stage-preserved : goal.loop-stage-preserved
loop-stage-preserved g c = record {
  rows = new_rows_more _ _ _ _ _ _ c.push_reserved.ensures.items c.loop-stage.invariant.rows
      c.in_ok-row.ensures.title c.in_ok-row.ensures.empty c.in_ok-row.ensures.capacity;
  inner = of_rows_more writer_title writer_name state_of _ _ _ _ _ _ c.push_reserved.ensures.items
      c.push_reserved-in-loop-stage.ensures.items c.loop-stage.invariant.inner
      c.in_ok-row.ensures.inner.title_is c.in_ok-row.ensures.inner.name_is;
  outer = of_rows_more writer_title writer_name state_of _ _ _ _ _ _ c.push_reserved.ensures.items
      c.push_reserved-in-loop-stage-2.ensures.items c.loop-stage.invariant.outer
      c.in_ok-row.ensures.outer.title_is c.in_ok-row.ensures.outer.name_is;
  inner_unread = all_pushed IsUnread _ _ _ c.push_reserved-in-loop-stage.ensures.items
      c.loop-stage.invariant.inner_unread (unread _ _ _ c.in_ok-row.ensures.inner);
  outer_unread = all_pushed IsUnread _ _ _ c.push_reserved-in-loop-stage-2.ensures.items
      c.loop-stage.invariant.outer_unread (unread _ _ _ c.in_ok-row.ensures.outer);
  inner_count = one_more _ _ _ _ c.push_reserved-in-loop-stage.ensures.items c.loop-stage.invariant.inner_count;
  outer_count = one_more _ _ _ _ c.push_reserved-in-loop-stage-2.ensures.items c.loop-stage.invariant.outer_count;
  rows_room = let room = c.loop-stage.invariant.rows_room in let same = c.push_reserved.ensures.capacity in omega arith;
  inner_room = let room = c.loop-stage.invariant.inner_room in
      let same = c.push_reserved-in-loop-stage.ensures.capacity in
      omega arith;
  outer_room = let room = c.loop-stage.invariant.outer_room in
      let same = c.push_reserved-in-loop-stage-2.ensures.capacity in
      omega arith;
}
