use Rattle.std.proofs.Common.{◌+◌, ◌≤◌}
use Rattle.std.specs.Arc.{arc_value}
use Rattle.std.specs.Vec.{vec_len, vec_capacity}
use Rattle.std.specs.Vec.Iter.{into_iter_items, into_iter_len}
use Rattle.stages.specs.States.{StageState, state_by}
use Rattle.stages.specs.declared.stage.Stage.{Stage}
use Rattle.stages.proofs.NewLines.{AreMade}
use Rattle.stages.proofs.line.Line.new.Given as goal

abbrev pub invariant-loop-row : goal.invariant-loop-row
invariant-loop-row g l =
    let state : Stage g.row.R.Denot g.R.RowOut → StageState = λ s.
    state_by g.R.RowOut.capacity g.R.RowOut.name g.R.RowOut.items s.splitter s.row in record {
      made : AreMade g.R.RowOut.title g.R.RowOut.capacity g.R.RowOut.name g.R.RowOut.items (arc_value l.job)
          l.fn.ring state l.fn.rows.items l.stages.items (into_iter_items l.splitters) (into_iter_items l.rows);
      room : vec_len l.stages + into_iter_len l.rows ≤ vec_capacity l.stages;
    }

abbrev pub decreases-loop-row : goal.decreases-loop-row
decreases-loop-row g l = into_iter_len l.rows
