use Rattle.series_graph.proofs.Marked.{IsMarking, FirstOf, FirstPairsOf}
use Rattle.series_graph.proofs.ancestors.mark_named.Given as goal

abbrev pub invariant-loop-id : goal.invariant-loop-id
invariant-loop-id l = IsMarking (FirstOf l.id-items l.id-index) l.fn.marks l.marks

abbrev pub invariant-loop-a : goal.invariant-loop-a
invariant-loop-a l = IsMarking (FirstPairsOf l.a-items l.a-index) l.fn.marks l.marks
