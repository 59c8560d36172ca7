use Rattle.std.proofs.Common.{take, All}
use Rattle.parts.specs.SeriesRows.{rows_in, SameEntries, HasPlaceOf}
use Rattle.parts.proofs.row_terms.make_places.Given as goal

abbrev pub invariant-loop-t : goal.invariant-loop-t
invariant-loop-t l = record {
  same : SameEntries (rows_in l.fn.rows.items) (rows_in l.rows.items);
  places : All (HasPlaceOf (rows_in l.rows.items)) (take l.t-index l.terms);
}
