use Rattle.std.proofs.Common.{◌≡◌, length}
use Rattle.parts.specs.RowsOfParts.{parts_of, AreParts}
use Rattle.series_tests.proofs.preparations.row.Given as goal

abbrev pub invariant-loop-c : goal.invariant-loop-c
invariant-loop-c l = record {
  count : length l.row.items ≡ l.c-index;
  parts : AreParts l.fn.ring l.fn.part.degree (parts_of l.row.items);
}
