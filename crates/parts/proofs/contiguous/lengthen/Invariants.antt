use Rattle.std.proofs.Common.{◌≡◌, ℕ, ◌+◌, ◌-◌, ◌≤◌, length, get_or}
use Rattle.parts.proofs.contiguous.lengthen.Given as goal

abbrev pub invariant-loop-row : goal.invariant-loop-row
invariant-loop-row l = record {
  same : (j : ℕ) → get_or l.row.items j 0 ≡ get_or l.fn.row.items j 0;
  longer : length l.fn.row.items ≤ length l.row.items;
}

abbrev pub decreases-loop-row : goal.decreases-loop-row
decreases-loop-row l = l.p + 1 - length l.row.items
