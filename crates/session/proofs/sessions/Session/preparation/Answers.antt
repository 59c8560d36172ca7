use Rattle.std.proofs.Common.{map, IfSome, subst}
use Rattle.ps_model.specs.declared.job.JobData.{JobData}
use Rattle.stages.specs.Lines.{OfStage}
use Rattle.stages.specs.Splitters.{IsPreparationOf}
use Rattle.stages.specs.States.{state_by}
use Rattle.stages.specs.declared.stage.Stage.{Stage}
use Rattle.session.proofs.sessions.Session.preparation.Goals as goal

pub returns-clause-rows : goal.returns-clause-rows
returns-clause-rows g c =
    let states = map (λ (t : Stage g.row.R.Denot g.R.RowOut).
    state_by g.R.RowOut.capacity g.R.RowOut.name g.R.RowOut.items t.splitter t.row) c.args.self.now.line.stages.items in
    subst (λ (j : JobData). OfStage states c.args.stage (λ s. IfSome c.preparation.result (λ prep. IsPreparationOf
    (record { job = j; stage = c.args.stage }) s.ring prep.now)))
    c.args.self.now.same_job c.preparation.ensures.rows
