use Rattle.std.proofs.Common.{◌≡◌, length}
use Rattle.parts.specs.RowsOfParts.{parts_in, AreRowsOfParts}
use Rattle.prepare_speed.proofs.rows.rows_up_to.Given as goal

abbrev pub invariant-loop-r : goal.invariant-loop-r
invariant-loop-r l = record {
  count : length l.rows.items ≡ l.r;
  rows : AreRowsOfParts l.fn.ring 8 (parts_in l.rows.items);
}
