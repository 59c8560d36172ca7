use Rattle.std.proofs.Common.{◌≡◌, ℕ, ◌<◌, length, get_or}
use Rattle.parts.specs.PartValue.{PartValue}
use Rattle.parts.specs.RowsOfParts.{parts_of}
use Rattle.taylor.specs.Shifts.{IsPartOfShift}
use Rattle.taylor.proofs.shifts.shift.Given as goal

abbrev pub invariant-loop-i : goal.invariant-loop-i
invariant-loop-i l = record {
  count : length l.shifted.items ≡ l.i;
  part : (i : ℕ) (other : PartValue) → i < l.i
      → IsPartOfShift l.fn.ring l.c (parts_of l.row) i (get_or (parts_of l.shifted.items) i other);
}
