use Rattle.std.proofs.Common.{map}
use Rattle.stages.specs.States.{StageState, state_by}
use Rattle.stages.specs.declared.stage.Stage.{Stage}
use Rattle.stages.proofs.RoundParts.{InTurn}
use Rattle.stages.proofs.workers.advance_all.Given as goal

abbrev pub invariant-loop-s : goal.invariant-loop-s
invariant-loop-s g l =
    let state : Stage g.row.R.Denot g.R.RowOut → StageState = λ s.
    state_by g.R.RowOut.capacity g.R.RowOut.name g.R.RowOut.items s.splitter s.row in
    InTurn l.plan l.s (map state l.initial.stages) (map state l.stages) l.initial.tally l.tally
