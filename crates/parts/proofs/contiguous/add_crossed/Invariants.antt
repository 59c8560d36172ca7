use Rattle.std.proofs.Common.{◌+◌, ◌≤◌}
use Rattle.residue.specs.Products.{sum_below}
use Rattle.residue.specs.ProductSums.{Gains}
use Rattle.parts.specs.SeriesRows.{rows_in, row_products}
use Rattle.parts.proofs.contiguous.add_crossed.Given as goal

abbrev pub invariant-loop-i : goal.invariant-loop-i
invariant-loop-i l = record {
  low : l.i ≤ l.f + 1;
  gains : Gains l.fn.sum l.sum (sum_below l.i (row_products (rows_in l.a) (rows_in l.w) l.f l.p));
}
