use Rattle.std.proofs.Common.{length, map}
use Rattle.parts.specs.RowsOfParts.{parts_of}
use Rattle.stages.specs.States.{StageState, state_by}
use Rattle.stages.specs.declared.stage.Stage.{Stage}
use Rattle.session.proofs.Known.{IsLeast}
use Rattle.session.proofs.sessions.Session.known.Given as goal

abbrev pub invariant-loop-stage : goal.invariant-loop-stage
invariant-loop-stage g l =
    let state : Stage g.row.R.Denot g.R.RowOut → StageState = λ s.
    state_by g.R.RowOut.capacity g.R.RowOut.name g.R.RowOut.items s.splitter s.row in
    IsLeast (length (parts_of l.self.lead.items)) (map state l.self.line.stages.items) l.stage l.least
