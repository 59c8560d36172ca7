use Rattle.std.proofs.Common.{take}
use Rattle.parts.specs.RowsOfParts.{parts_of}
use Rattle.series_graph.specs.Calls.{Keeps}
use Rattle.intake.specs.InputRows.{ArePartsOf}
use Rattle.intake.proofs.slot_rows.row_of.Given as goal

abbrev pub invariant-loop-slot : goal.invariant-loop-slot
invariant-loop-slot l = record {
  kept : Keeps l.fn.graph l.graph;
  parts : ArePartsOf l.fn.graph (take l.slot-index l.slots) l.r (parts_of l.row.items);
}
