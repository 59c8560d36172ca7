use Rattle.std.proofs.Common.{◌≡◌, ◌≤◌, length}
use Rattle.parts.specs.RowsOfParts.{parts_in}
use Rattle.commands.specs.Expandings.{AreValueRows}
use Rattle.commands.proofs.expanding.extend_rows.Given as goal

abbrev pub invariant-loop-r : goal.invariant-loop-r
invariant-loop-r l = record {
  at : l.r ≡ length l.rows.items;
  input : l.input ≡ l.fn.input;
  rows : AreValueRows l.fn.input (parts_in l.rows.items);
  few : length l.rows.items ≤ 4096;
}
