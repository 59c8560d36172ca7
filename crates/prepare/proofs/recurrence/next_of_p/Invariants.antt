use Rattle.std.proofs.Common.{◌≡◌, length}
use Rattle.parts.specs.RowsOfParts.{parts_of, parts_in}
use Rattle.prepare.specs.Recurrence.{next_p}
use Rattle.prepare.proofs.Columns.{IsGrowing}
use Rattle.prepare.proofs.Grown.{IsSoFar}
use Rattle.prepare.proofs.recurrence.next_of_p.Given as goal

abbrev pub invariant-loop-i : goal.invariant-loop-i
invariant-loop-i l = record {
  rows : l.p.rows.items ≡ l.fn.p.rows.items;
  so_far : IsSoFar l.fn.given.ring (length l.fn.p.rows.items) (next_p l.fn.given.ring l.fn.given.inverse
      (length l.fn.p.rows.items) (parts_in l.fn.p.rows.items) (parts_in l.fn.u.rows.items)
      (parts_of l.fn.row) (parts_of l.last.items)) (parts_of l.last.items) l.i;
  growing : IsGrowing l.fn.given.ring l.fn.given.k (parts_in l.fn.p.rows.items) (parts_of l.last.items) l.i
      l.p.series.items;
}
