use Rattle.std.proofs.Common.{◌≡◌, length}
use Rattle.parts_tests.proofs.own_rows.fill.Given as goal

abbrev pub invariant-loop-r : goal.invariant-loop-r
invariant-loop-r g l = record {
  title : g.R.RowOut.title l.row ≡ g.R.RowOut.title l.initial.row;
  capacity : g.R.RowOut.capacity l.row ≡ g.R.RowOut.capacity l.initial.row;
  count : length (g.R.RowOut.items l.row) ≡ l.r;
}
