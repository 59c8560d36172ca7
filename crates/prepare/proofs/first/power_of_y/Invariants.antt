use Rattle.std.proofs.Common.{◌≡◌, replicate}
use Rattle.parts.specs.RowsOfParts.{parts_of, nothing}
use Rattle.prepare.proofs.first.power_of_y.Given as goal

abbrev pub invariant-loop : goal.invariant-loop
invariant-loop l = parts_of l.row.items ≡ replicate l.counter nothing
