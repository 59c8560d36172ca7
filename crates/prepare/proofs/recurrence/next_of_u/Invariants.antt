use Rattle.std.proofs.Common.{◌≡◌, suc, length}
use Rattle.parts.specs.RowsOfParts.{parts_of, parts_in}
use Rattle.prepare.specs.Recurrence.{next_u}
use Rattle.prepare.proofs.Columns.{IsGrowing}
use Rattle.prepare.proofs.Grown.{IsSoFar}
use Rattle.prepare.proofs.recurrence.next_of_u.Given as goal

abbrev pub invariant-loop-j : goal.invariant-loop-j
invariant-loop-j l = record {
  rows : l.u.rows.items ≡ l.fn.u.rows.items;
  so_far : IsSoFar l.fn.given.ring (length l.fn.p.rows.items) (next_u l.fn.given.ring l.fn.given.k
      (length l.fn.p.rows.items) (parts_in l.fn.p.rows.items) (parts_in l.fn.u.rows.items)
      (parts_of l.fn.row) (parts_of l.fn.last)) (parts_of l.next.items) l.j;
  growing : IsGrowing l.fn.given.ring (suc l.fn.given.q) (parts_in l.fn.u.rows.items) (parts_of l.next.items) l.j
      l.u.series.items;
}
