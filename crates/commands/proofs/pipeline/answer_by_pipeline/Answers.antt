use Rattle.std.proofs.Common.{◌≡◌, ◌∙◌, ◌<◌, ◌≤◌, ap, arith, length, subst, sym, Err}
use Rattle.std.specs.Prelude.{IfSome}
use Rattle.std.proofs.lemmas.Result.{err_from_is_err_and}
use Rattle.parts.specs.JobRows.{IsRingOf}
use Rattle.parts.specs.declared.rings.Ring.{Ring}
use Rattle.session.specs.Sessions.{SessionState, IsSession}
use Rattle.session.specs.Shared.{HasReaders}
use Rattle.commands.specs.Answering.{FactoringValue}
use Rattle.commands.specs.declared.command.ScriptCommand.TheVariants.{Factor}
use Rattle.commands.specs.Factorings.{factoring_of}
use Rattle.commands.specs.Readings.{Factors}
use Rattle.commands.specs.SharedStates.{state_of, outer_of}
use Rattle.commands.proofs.RequestsDone.{ended_by, factor_on, factor_stop, next_asked, next_ended}
use Rattle.commands.proofs.RunsEnded.{few_steps}
use Rattle.commands.proofs.pipeline.answer_by_pipeline.Goals as goal

has_ring : {ring : Ring} {s : SessionState} → IsSession s → ring ≡ s.ring → IsRingOf ring s.job.job
has_ring {s = s} holds is = subst (λ ring. IsRingOf ring s.job.job) (sym is) holds.ring_is

pub loop-request-init : goal.loop-request-init
loop-request-init g c = record {
  far = λ left written first far. far;
  even = c.requires.even;
  readers = c.requires.readers;
  read = omega arith;
  wrote = omega arith;
}

pub next_request-requires : goal.next_request-requires
next_request-requires g c = let begun = c.requires.begun in (c.loop-request.invariant.far begun.0 begun.1 begun.2 begun.4).few

pub returns-in_err-request : goal.returns-in_err-request
returns-in_err-request g c = λ left written read wrote first source_faults sink_faults begun.
    let inv = c.loop-request.invariant in
    let p = err_from_is_err_and c.from_residual.result c.from_residual.ensures.1 in
    ended_by c.from_residual.result c.in_err-request.field-0.0 (p.1 ∙ ap Err p.2)
    (c.in_err-request.ensures.next.follows (Factors (factoring_of (state_of c.loop-request.session))) left written read
    wrote first c.loop-request.tally (has_ring c.loop-request.session.holds c.ring.ensures) (omega (arith, source_faults, inv.read))
    (omega (arith, sink_faults, inv.wrote)) (inv.far left written first begun))

pub answer_request-requires-clause-even : goal.answer_request-requires-clause-even
answer_request-requires-clause-even g c = λ κs outlives. c.loop-request.invariant.even

pub answer_request-requires-clause-readers : goal.answer_request-requires-clause-readers
answer_request-requires-clause-readers g c = λ κs outlives. c.loop-request.invariant.readers

pub answer_request-requires-clause-permitted : goal.answer_request-requires-clause-permitted
answer_request-requires-clause-permitted g c = λ κs outlives.
    let inv = c.loop-request.invariant in
    let begun = c.requires.begun in
    (next_asked c.in_ok-request.ensures.next (Factors (factoring_of (state_of c.loop-request.session))) (has_ring c.loop-request.session.holds c.ring.ensures)
    _ _ inv.read inv.wrote (inv.far begun.0 begun.1 begun.2 begun.4) c.in-Some.request c.in-Some.is).allowed

pub answer_request-requires-clause-tally : goal.answer_request-requires-clause-tally
answer_request-requires-clause-tally g c = λ κs outlives.
    let begun = c.requires.begun in
    let far = c.loop-request.invariant.far begun.0 begun.1 begun.2 begun.4 in
    few_steps Factor (Factors (factoring_of (state_of c.loop-request.session))) begun.2 c.loop-request.tally begun.3
    far.done.reads far.done.spends

pub returns-in_err-answer_request : goal.returns-in_err-answer_request
returns-in_err-answer_request g c = λ left written read wrote first source_faults sink_faults begun.
    let inv = c.loop-request.invariant in
    let next = c.in_ok-request.ensures.next in
    let asked = next_asked next (Factors (factoring_of (state_of c.loop-request.session))) (has_ring c.loop-request.session.holds c.ring.ensures) _ _ inv.read
    inv.wrote (inv.far left written first begun) c.in-Some.request c.in-Some.is in
    let p = err_from_is_err_and c.from_residual-in_err-answer_request.result
    c.from_residual-in_err-answer_request.ensures.1 in
    ended_by c.from_residual-in_err-answer_request.result c.in_err-answer_request.field-0.0
    (p.1 ∙ ap Err p.2)
    (factor_stop _ (factoring_of (state_of c.loop-request.session)) c.in-Some.request _ _ _ _ _ _ asked
    (factoring_of (state_of c.answer_request.new.session)) _ _ _ _ c.in_err-answer_request.field-0.0
    c.in_err-answer_request.ensures.answers
    read _ wrote (omega (arith, source_faults, inv.read, next.source_faults))
    (omega (arith, sink_faults, inv.wrote, next.sink_faults)))

pub loop-request-smaller : goal.loop-request-smaller
loop-request-smaller g c =
    let onward = subst (λ o. IfSome o (λ q. (c.loop-request.lines.place < c.next_request.new.lines.place)
    × (c.next_request.new.lines.place ≤ 1048576))) c.in-Some.is c.in_ok-request.ensures.onward in
    omega (arith, onward.0, onward.1)

pub loop-request-preserved : goal.loop-request-preserved
loop-request-preserved g c =
    let inv = c.loop-request.invariant in
    let next = c.in_ok-request.ensures.next in
    let answer = c.in_ok-answer_request.ensures in
    record {
      far = λ left written first begun.
          let asked = next_asked next (Factors (factoring_of (state_of c.loop-request.session))) (has_ring c.loop-request.session.holds c.ring.ensures) _ _
          inv.read inv.wrote (inv.far left written first begun) c.in-Some.request c.in-Some.is in
          factor_on _ (factoring_of (state_of c.loop-request.session)) c.in-Some.request _ _ _ _ _ _ asked
          (factoring_of (state_of c.answer_request.new.session)) _ _ _ _ tt answer.answers;
      even = answer.even;
      readers = subst (λ (v : FactoringValue). HasReaders (length v.job.roots) (outer_of c.answer_request.new.session))
          (sym answer.answers.next) answer.readers;
      read = omega (arith, inv.read, next.source_faults);
      wrote = omega (arith, inv.wrote, next.sink_faults, answer.answers.answered.faults);
    }

pub returns : goal.returns
returns g c = λ left written read wrote first source_faults sink_faults begun.
    let inv = c.loop-request.invariant in
    next_ended c.in_ok-request.ensures.next (Factors (factoring_of (state_of c.loop-request.session))) (has_ring c.loop-request.session.holds c.ring.ensures)
    _ _ (omega (arith, source_faults, inv.read)) (omega (arith, sink_faults, inv.wrote))
    (inv.far left written first begun) c.in_default.not-Some
