use Rattle.std.proofs.Common.{◌+◌, ◌-◌, length}
use Rattle.parts.specs.SeriesRows.{rows_in, SameEntries, KeepsPlaces}
use Rattle.parts.proofs.contiguous.add_rows.Given as goal

abbrev pub invariant-loop-alloc : goal.invariant-loop-alloc
invariant-loop-alloc l = record {
  same : SameEntries (rows_in l.fn.rows.items) (rows_in l.rows.items);
  kept : KeepsPlaces (rows_in l.fn.rows.items) (rows_in l.rows.items);
}

abbrev pub decreases-loop-alloc : goal.decreases-loop-alloc
decreases-loop-alloc l = l.f + 1 - length l.rows.items
