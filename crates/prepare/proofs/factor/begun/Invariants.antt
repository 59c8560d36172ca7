use Rattle.std.proofs.Common.{◌∷◌, []}
use Rattle.parts.specs.RowsOfParts.{parts_of}
use Rattle.prepare.specs.Columns.{AreColumns}
use Rattle.prepare.proofs.factor.begun.Given as goal

abbrev pub invariant-loop-i : goal.invariant-loop-i
invariant-loop-i l = AreColumns l.ring l.i (parts_of l.row ∷ []) l.all.items
