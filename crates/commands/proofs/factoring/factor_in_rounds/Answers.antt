use Rattle.std.proofs.Common.{◌∙◌, ◌+◌, ◌*◌, ap, arith, Err, length, Some}
use Rattle.std.proofs.lemmas.Result.{err_from_is_err_and}
use Rattle.commands.specs.declared.command.ScriptCommand.TheVariants.{Factor}
use Rattle.commands.specs.declared.stop.Stop.TheVariants.{OutOfMemory}
use Rattle.commands.specs.Answering.{FactoringValue}
use Rattle.commands.specs.Readings.{Factors}
use Rattle.commands.specs.Words.{Script}
use Rattle.commands.proofs.RequestsDone.{ended_by, factor_on, factor_stop, far_of, next_asked, next_ended}
use Rattle.commands.proofs.RunsEnded.{few_steps, ran_first, ran_here}
use Rattle.commands.proofs.factoring.factor_in_rounds.Goals as goal

pub returns-in_err-lines : goal.returns-in_err-lines
returns-in_err-lines g c =
    let p = err_from_is_err_and c.from_residual.result c.from_residual.ensures.1 in
    ended_by c.from_residual.result OutOfMemory (p.1 ∙ ap Err p.2)
    (ran_first (Some (Script Factor)) (g.S.Source.left c.args.source.now) (g.K.Sink.written c.args.sink.now)
    (g.S.Source.faults c.args.source.now) (g.K.Sink.faults c.args.sink.now) c.args.tally.now)

pub returns-in_err-job : goal.returns-in_err-job
returns-in_err-job g c =
    let p = err_from_is_err_and c.from_residual-in_err-job.result c.from_residual-in_err-job.ensures.1 in
    ended_by c.from_residual-in_err-job.result c.in_err-job.field-0.0 (p.1 ∙ ap Err p.2)
    (c.in_err-job.ensures.begins c.args.tally.now)

pub returns-in_err-factoring : goal.returns-in_err-factoring
returns-in_err-factoring g c =
    let p = err_from_is_err_and c.from_residual-in_err-factoring.result c.from_residual-in_err-factoring.ensures.1 in
    ended_by c.from_residual-in_err-factoring.result OutOfMemory (p.1 ∙ ap Err (p.2 ∙ c.in_err-factoring.ensures.refused))
    (ran_here Factor _ _ _ _ _ _ _ _ (c.in_ok-job.ensures.begins c.args.tally.now) _ _ _ _
    c.in_ok-job.ensures.source_faults c.in_ok-job.ensures.sink_faults)

pub loop-factoring-init : goal.loop-factoring-init
loop-factoring-init g c = record {
  far = far_of _ _ (ap Factors c.in_ok-factoring.ensures.opened) (c.in_ok-job.ensures.begins c.args.tally.now);
  read = c.in_ok-job.ensures.source_faults;
  wrote = c.in_ok-job.ensures.sink_faults;
}

pub next_request-requires : goal.next_request-requires
next_request-requires g c = c.loop-factoring.invariant.far.few

pub returns-in_err-request : goal.returns-in_err-request
returns-in_err-request g c =
    let inv = c.loop-factoring.invariant in
    let p = err_from_is_err_and c.from_residual-in_err-request.result c.from_residual-in_err-request.ensures.1 in
    ended_by c.from_residual-in_err-request.result c.in_err-request.field-0.0 (p.1 ∙ ap Err p.2)
    (c.in_err-request.ensures.next.follows (Factors c.loop-factoring.factoring) _ _ _ _ _ _ c.ring.ensures inv.read inv.wrote
    inv.far)

pub answer-requires-clause-permitted : goal.answer-requires-clause-permitted
answer-requires-clause-permitted g c = λ κs outlives.
    let inv = c.loop-factoring.invariant in
    (next_asked c.in_ok-request.ensures.next (Factors c.loop-factoring.factoring) c.ring.ensures _ _ inv.read inv.wrote
    inv.far c.in-Some.request c.in-Some.is).allowed

pub answer-requires-clause-tally : goal.answer-requires-clause-tally
answer-requires-clause-tally g c = λ κs outlives.
    let far = c.loop-factoring.invariant.far in
    few_steps Factor (Factors c.loop-factoring.factoring) c.args.tally.now c.loop-factoring.tally c.requires.room far.done.reads
    far.done.spends

pub returns-in_err-factoring-2 : goal.returns-in_err-factoring-2
returns-in_err-factoring-2 g c =
    let inv = c.loop-factoring.invariant in
    let next = c.in_ok-request.ensures.next in
    let asked = next_asked next (Factors c.loop-factoring.factoring) c.ring.ensures _ _ inv.read inv.wrote inv.far
    c.in-Some.request c.in-Some.is in
    let answer = c.in_err-factoring-2.ensures in
    let p = err_from_is_err_and c.from_residual-in_err-factoring-2.result
    c.from_residual-in_err-factoring-2.ensures.1 in
    ended_by c.from_residual-in_err-factoring-2.result c.in_err-factoring-2.field-0.0 (p.1 ∙ ap Err p.2)
    (factor_stop _ c.loop-factoring.factoring c.in-Some.request _ _ _ _ _ _ asked c.loop-factoring.factoring _ _ _ _
    {A = FactoringValue} c.in_err-factoring-2.field-0.0
    (record { next = tt; answered = answer.answered; spent = tt; more = answer.more; at_most = answer.at_most })
    _ _ _ (omega (arith, inv.read, next.source_faults)) (omega (arith, inv.wrote, next.sink_faults)))

pub loop-factoring-preserved : goal.loop-factoring-preserved
loop-factoring-preserved g c =
    let inv = c.loop-factoring.invariant in
    let next = c.in_ok-request.ensures.next in
    let asked = next_asked next (Factors c.loop-factoring.factoring) c.ring.ensures _ _ inv.read inv.wrote inv.far
    c.in-Some.request c.in-Some.is in
    let answer = c.in_ok-factoring-2.ensures in
    record {
      far = factor_on _ c.loop-factoring.factoring c.in-Some.request _ _ _ _ _ _ asked c.in_ok-factoring-2.factoring
          _ _ _ _ c.in_ok-factoring-2.factoring (record {
            next = answer.next;
            answered = answer.answered;
            spent = answer.spent
                ∙ ap (λ f. c.loop-factoring.tally + length c.loop-factoring.factoring.job.roots * f.degrees) answer.next;
            more = answer.more;
            at_most = answer.at_most;
          });
      read = omega (arith, inv.read, next.source_faults);
      wrote = omega (arith, inv.wrote, next.sink_faults, answer.answered.faults);
    }

pub returns : goal.returns
returns g c =
    let inv = c.loop-factoring.invariant in
    next_ended c.in_ok-request.ensures.next (Factors c.loop-factoring.factoring) c.ring.ensures _ _ inv.read inv.wrote
    inv.far c.in_default.not-Some
