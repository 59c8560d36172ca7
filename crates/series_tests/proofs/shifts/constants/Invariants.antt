use Rattle.std.proofs.Common.{◌≡◌, ℕ, ◌<◌, length, get_or}
use Rattle.parts.specs.PartValue.{PartValue, IsPartOf}
use Rattle.parts.specs.RowsOfParts.{parts_of}
use Rattle.series_tests.proofs.shifts.constants.Given as goal

abbrev pub invariant-loop-c : goal.invariant-loop-c
invariant-loop-c l = record {
  count : length l.row.items ≡ l.c-index;
  part : (i : ℕ) (other : PartValue) → i < l.c-index
      → ((get_or (parts_of l.row.items) i other).degree ≡ 0)
      × IsPartOf l.fn.ring (get_or (parts_of l.row.items) i other);
}
