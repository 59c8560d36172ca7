use Rattle.std.proofs.Common.{ltb, ◌∙◌, arith}
use Rattle.stages.specs.States.{StageState, state_by}
use Rattle.stages.specs.declared.stage.Stage.{Stage}
use Rattle.stages.proofs.Events.{may_behind}
use Rattle.stages.proofs.schedule.may_gain.Goals as goal

pub returns-else-s-eq0 : goal.returns-else-s-eq0
returns-else-s-eq0 g c =
    let state : Stage g.row.R.Denot g.R.RowOut → StageState = λ s.
    state_by g.R.RowOut.capacity g.R.RowOut.name g.R.RowOut.items s.splitter s.row in
    (λ i. ltb (c.len-else-s-eq0.ensures i) (c.len.ensures i))
    ∙ may_behind state c.args.stages.now c.args.s c.index-stages-s.result c.index-stages-s-else-s-eq0.result
    (omega arith) c.requires c.index-stages-s.is c.index-stages-s-else-s-eq0.is
