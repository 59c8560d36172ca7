use Rattle.parts.specs.RowsOfParts.{parts_of}
use Rattle.prepare.specs.Calls.{HasNoneBelow}
use Rattle.prepare.proofs.first.lowest_below.Given as goal

abbrev pub invariant-loop-power : goal.invariant-loop-power
invariant-loop-power l = HasNoneBelow l.power (parts_of l.row)
