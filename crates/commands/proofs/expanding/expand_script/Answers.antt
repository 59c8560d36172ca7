use Rattle.std.proofs.Common.{◌∙◌, ap, arith, Err, Some, subst, sym}
use Rattle.std.proofs.lemmas.Result.{err_from_is_err_and}
use Rattle.parts.specs.JobRows.{IsPermitted}
use Rattle.session.specs.Precisions.{weights_in}
use Rattle.commands.specs.declared.command.ScriptCommand.TheVariants.{Expand}
use Rattle.commands.specs.declared.stop.Stop.TheVariants.{OutOfMemory}
use Rattle.commands.specs.Readings.{Inputs}
use Rattle.commands.specs.Words.{Script}
use Rattle.commands.proofs.RequestsDone.{ended_by, expand_on, expand_stop, far_of, next_asked, next_ended}
use Rattle.commands.proofs.RunsEnded.{ran_first}
use Rattle.commands.proofs.expanding.expand_script.Goals as goal

pub returns-in_err-lines : goal.returns-in_err-lines
returns-in_err-lines g c = λ tally.
    let p = err_from_is_err_and c.from_residual.result c.from_residual.ensures.1 in
    ended_by c.from_residual.result OutOfMemory (p.1 ∙ ap Err p.2)
    (ran_first (Some (Script Expand)) (g.S.Source.left c.args.source.now) (g.K.Sink.written c.args.sink.now)
    (g.S.Source.faults c.args.source.now) (g.K.Sink.faults c.args.sink.now) tally)

pub returns-in_err-job : goal.returns-in_err-job
returns-in_err-job g c = λ tally.
    let p = err_from_is_err_and c.from_residual-in_err-job.result c.from_residual-in_err-job.ensures.1 in
    ended_by c.from_residual-in_err-job.result c.in_err-job.field-0.0 (p.1 ∙ ap Err p.2)
    (c.in_err-job.ensures.begins tally)

pub loop-expanding-init : goal.loop-expanding-init
loop-expanding-init g c = record {
  far = λ tally. far_of _ _ (ap Inputs c.open-expanding.ensures) (c.in_ok-job.ensures.begins tally);
  read = c.in_ok-job.ensures.source_faults;
  wrote = c.in_ok-job.ensures.sink_faults;
}

pub next_request-requires : goal.next_request-requires
next_request-requires g c = (c.loop-expanding.invariant.far 0).few

pub returns-in_err-request : goal.returns-in_err-request
returns-in_err-request g c = λ tally.
    let inv = c.loop-expanding.invariant in
    let p = err_from_is_err_and c.from_residual-in_err-request.result c.from_residual-in_err-request.ensures.1 in
    ended_by c.from_residual-in_err-request.result c.in_err-request.field-0.0 (p.1 ∙ ap Err p.2)
    (c.in_err-request.ensures.next.follows (Inputs c.loop-expanding.expanding) _ _ _ _ tally tally c.ring.ensures inv.read
    inv.wrote (inv.far tally))

pub answer-requires : goal.answer-requires
answer-requires g c =
    let inv = c.loop-expanding.invariant in
    let asked = next_asked c.in_ok-request.ensures.next (Inputs c.loop-expanding.expanding) c.ring.ensures _ _ inv.read
    inv.wrote (inv.far 0) c.in-Some.request c.in-Some.is in
    record {
      permitted = subst (IsPermitted (weights_in c.loop-expanding.expanding.job)) (sym c.precision_of.ensures)
          asked.allowed.0;
    }

pub returns-in_err-expanding : goal.returns-in_err-expanding
returns-in_err-expanding g c = λ tally.
    let inv = c.loop-expanding.invariant in
    let next = c.in_ok-request.ensures.next in
    let asked = next_asked next (Inputs c.loop-expanding.expanding) c.ring.ensures _ _ inv.read inv.wrote (inv.far tally)
    c.in-Some.request c.in-Some.is in
    let p = err_from_is_err_and c.from_residual-in_err-expanding.result c.from_residual-in_err-expanding.ensures.1 in
    ended_by c.from_residual-in_err-expanding.result c.in_err-expanding.field-0.0 (p.1 ∙ ap Err p.2)
    (expand_stop _ _ _ _ _ _ _ tally asked c.precision_of.result c.precision_of.ensures _ _ _
    c.in_err-expanding.field-0.0 c.in_err-expanding.ensures.answered _ _ _
    (omega (arith, inv.read, next.source_faults)) (omega (arith, inv.wrote, next.sink_faults)))

pub loop-expanding-preserved : goal.loop-expanding-preserved
loop-expanding-preserved g c =
    let inv = c.loop-expanding.invariant in
    let next = c.in_ok-request.ensures.next in
    let answered = c.in_ok-expanding.ensures.answered in
    record {
      far = λ tally.
          let asked = next_asked next (Inputs c.loop-expanding.expanding) c.ring.ensures _ _ inv.read inv.wrote
          (inv.far tally) c.in-Some.request c.in-Some.is in
          far_of _ _ (ap Inputs c.in_ok-expanding.ensures.next)
          (expand_on _ _ _ _ _ _ _ tally asked c.precision_of.result c.precision_of.ensures _ _ _ _ answered);
      read = omega (arith, inv.read, next.source_faults);
      wrote = omega (arith, inv.wrote, next.sink_faults, answered.faults);
    }

pub returns : goal.returns
returns g c = λ tally.
    let inv = c.loop-expanding.invariant in
    next_ended c.in_ok-request.ensures.next (Inputs c.loop-expanding.expanding) c.ring.ensures _ _ inv.read inv.wrote
    (inv.far tally) c.in_default.not-Some
