use Rattle.series_tests.proofs.FirstParts.{AreParts}
use Rattle.series_tests.proofs.quotients.parts_up_to.Given as goal

abbrev pub invariant-loop-r : goal.invariant-loop-r
invariant-loop-r l = AreParts l.fn.ring l.r l.row.items
