use Rattle.std.proofs.Common.{◌∙◌, ap, length, subst, sym, Err, Some}
use Rattle.session.specs.Shared.{HasReaders}
use Rattle.commands.specs.Answering.{FactoringValue}
use Rattle.std.proofs.lemmas.Result.{err_from_is_err_and}
use Rattle.commands.specs.declared.command.ScriptCommand.TheVariants.{Factor}
use Rattle.commands.specs.declared.stop.Stop.TheVariants.{OutOfMemory}
use Rattle.commands.specs.Readings.{Factors}
use Rattle.commands.specs.SharedStates.{state_of, outer_of}
use Rattle.commands.specs.Words.{Script}
use Rattle.commands.proofs.Openings.{shared_even, shared_is}
use Rattle.commands.proofs.RequestsDone.{ended_by, far_of}
use Rattle.commands.proofs.RunsEnded.{ran_first, ran_here}
use Rattle.commands.proofs.pipeline.factor_in_pipeline.Goals as goal

pub returns-in_err-lines : goal.returns-in_err-lines
returns-in_err-lines g c =
    let p = err_from_is_err_and c.from_residual.result c.from_residual.ensures.1 in
    ended_by c.from_residual.result OutOfMemory (p.1 ∙ ap Err p.2)
    (ran_first (Some (Script Factor)) (g.S.Source.left c.args.source.now) (g.K.Sink.written c.args.sink.now)
    (g.S.Source.faults c.args.source.now) (g.K.Sink.faults c.args.sink.now) c.args.tally.now)

pub returns-in_err-job : goal.returns-in_err-job
returns-in_err-job g c =
    let p = err_from_is_err_and c.from_residual-in_err-job.result c.from_residual-in_err-job.ensures.1 in
    ended_by c.from_residual-in_err-job.result c.in_err-job.field-0.0 (p.1 ∙ ap Err p.2)
    (c.in_err-job.ensures.begins c.args.tally.now)

pub returns-in_err-session : goal.returns-in_err-session
returns-in_err-session g c =
    let p = err_from_is_err_and c.from_residual-in_err-session.result c.from_residual-in_err-session.ensures.1 in
    ended_by c.from_residual-in_err-session.result OutOfMemory (p.1 ∙ ap Err p.2)
    (ran_here Factor _ _ _ _ _ _ _ _ (c.in_ok-job.ensures.begins c.args.tally.now) _ _ _ _
    c.in_ok-job.ensures.source_faults c.in_ok-job.ensures.sink_faults)

pub answer_by_pipeline-done-requires-clause-even : goal.answer_by_pipeline-done-requires-clause-even
answer_by_pipeline-done-requires-clause-even g c = λ κs outlives.
    shared_even c.in_ok-job.job (state_of c.in_ok-session.session) c.in_ok-job.ensures.accepted
    c.in_ok-session.ensures.fresh

pub answer_by_pipeline-done-requires-clause-readers : goal.answer_by_pipeline-done-requires-clause-readers
answer_by_pipeline-done-requires-clause-readers g c = λ κs outlives.
    subst (λ (v : FactoringValue). HasReaders (length v.job.roots) (outer_of c.in_ok-session.session))
    (sym (shared_is c.in_ok-job.job (state_of c.in_ok-session.session) c.in_ok-job.ensures.accepted
    c.in_ok-session.ensures.fresh)) c.in_ok-session.ensures.readers

pub answer_by_pipeline-done-requires-clause-begun : goal.answer_by_pipeline-done-requires-clause-begun
answer_by_pipeline-done-requires-clause-begun g c = λ κs outlives. (
  _,
  _,
  _,
  c.requires.room,
  far_of _ _ (ap Factors (shared_is c.in_ok-job.job (state_of c.in_ok-session.session) c.in_ok-job.ensures.accepted
      c.in_ok-session.ensures.fresh)) (c.in_ok-job.ensures.begins c.args.tally.now),
)

pub returns : goal.returns
returns g c = c.answer_by_pipeline-done.ensures _ _ _ _ c.args.tally.now c.in_ok-job.ensures.source_faults
    c.in_ok-job.ensures.sink_faults
    (far_of _ _ (ap Factors (shared_is c.in_ok-job.job (state_of c.in_ok-session.session) c.in_ok-job.ensures.accepted
    c.in_ok-session.ensures.fresh)) (c.in_ok-job.ensures.begins c.args.tally.now))
