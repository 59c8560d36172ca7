use Rattle.intake.proofs.InputRowsRead.{OriginRead}
use Rattle.intake.proofs.free_input.FreeInput.at_origin.Given as goal

abbrev pub invariant-loop-slot : goal.invariant-loop-slot
invariant-loop-slot l =
    OriginRead l.self-inside.graph.ring l.self-inside.graph.formulas l.slot-items l.row.items l.slot-index
