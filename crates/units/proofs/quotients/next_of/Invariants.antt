use Rattle.std.proofs.Common.{◌+◌, ◌-◌, ◌≤◌}
use Rattle.parts.specs.RowsOfParts.{parts_of}
use Rattle.units.proofs.NextParts.{IsRest}
use Rattle.units.proofs.quotients.next_of.Given as goal

abbrev pub invariant-loop-end : goal.invariant-loop-end
invariant-loop-end l = record {
  within : l.end ≤ l.r + 1;
  rest : IsRest l.fn.ring l.fn.numerator (parts_of l.fn.own) (parts_of l.fn.b) l.r (l.r - (l.end - 1)) l.sum;
}

abbrev pub decreases-loop-end : goal.decreases-loop-end
decreases-loop-end l = l.end
