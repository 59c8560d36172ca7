use Rattle.std.proofs.Common.{◌≡◌, length}
use Rattle.parts.specs.RowsOfParts.{parts_of, AreParts}
use Rattle.prepare_speed.proofs.rows.row_of.Given as goal

abbrev pub invariant-loop-j : goal.invariant-loop-j
invariant-loop-j l = record {
  count : length l.row.items ≡ l.j;
  parts : AreParts l.fn.powers.ring l.fn.degree (parts_of l.row.items);
}
