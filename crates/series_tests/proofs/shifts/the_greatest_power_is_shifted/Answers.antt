use Rattle.std.proofs.Common.{sym, subst, lit≤}
use Rattle.parts.specs.RowsOfParts.{parts_of, IsRowOfParts}
use Rattle.series_tests.proofs.shifts.the_greatest_power_is_shifted.Goals as goal

pub shift-requires-clause-parts : goal.shift-requires-clause-parts
shift-requires-clause-parts g c = record {
  K = 32;
  r = 0;
  low = lit≤ tt;
  row_is = subst (λ row. IsRowOfParts c.new-ring.result 32 0 (parts_of row)) (sym c.deref.ensures.value)
      c.in_ok-row.ensures.parts;
}
