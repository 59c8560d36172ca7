use Rattle.std.proofs.Common.{◌≤◌, ◌+◌, length, get_or, take, refl, arith, sym, subst, ◌∙◌}
use Rattle.parts.specs.JobRows.{IsPermitted}
use Rattle.stages.specs.States.{prepared_of}
use Rattle.stages.proofs.Events.{line_through}
use Rattle.stages.proofs.LineTitles.{stages_of, of_stages, each_there}
use Rattle.stages.proofs.Raises.{raised_on, line_on, line_now, room_now, not_raised, all_have}
use Rattle.stages.proofs.Raises.{raised_kept, raised_within, raised_reach, raised_still}
use Rattle.stages.proofs.Rounds.{on_err}
use Rattle.stages.proofs.RoundRaises.{some_there, still_lacks, lacks_not, fewer_on}
use Rattle.stages.proofs.line.Line.raise_rounds.Goals as goal

pub loop-self-init : goal.loop-self-init
loop-self-init g c = record {
  raised = not_raised _ _ _;
  source = refl;
  there = λ have. refl;
  job = refl;
}

pub raise_round-requires-clause-line : goal.raise_round-requires-clause-line
raise_round-requires-clause-line g c κs within = line_now _ _ _ c.deref_mut.ensures.value _ _
    (c.loop-self.invariant.source ∙ c.requires.source ∙ sym c.loop-self.invariant.job)
    (stages_of _ _ c.loop-self.self.stages.items c.loop-self.self.accepted (c.loop-self.self.of_job (some_there _ c.args.to
    _ _ c.deref.ensures.value (c.lacks_item.ensures.some c.loop-self-test.true))))

pub raise_round-requires-clause-room : goal.raise_round-requires-clause-room
raise_round-requires-clause-room g c κs within = room_now _ _ _ c.deref_mut.ensures.value _ c.args.to c.args.to _
    (omega arith) c.requires.room c.loop-self.invariant.raised.grow

pub raise_round-requires-clause-permitted : goal.raise_round-requires-clause-permitted
raise_round-requires-clause-permitted g c κs within = subst (λ job. IsPermitted (take job.n job.weights) c.args.to)
    (sym (c.loop-self.invariant.source ∙ c.requires.source)) c.requires.permitted

pub invariant_of-self-clause-of_job : goal.invariant_of-self-clause-of_job
invariant_of-self-clause-of_job g c some = of_stages _ _ _
    (line_on _ c.loop-self.self.stages _ _ c.deref_mut.ensures.value _ _
    (stages_of _ _ c.loop-self.self.stages.items c.loop-self.self.accepted (c.loop-self.self.of_job (some_there _ c.args.to
    _ _ c.deref.ensures.value (c.lacks_item.ensures.some c.loop-self-test.true))))
    c.raise_round.ensures.grow)

pub returns-in_err-raise_round-clause-kept : goal.returns-in_err-raise_round-clause-kept
returns-in_err-raise_round-clause-kept g c = raised_kept (c.args.to + 1) _ _
    (raised_on _ c.loop-self.self.stages _ _ c.deref_mut.ensures.value (c.args.to + 1) c.args.to _ _ _ _
    (omega arith) c.loop-self.invariant.raised c.in_err-raise_round.ensures.grow c.in_err-raise_round.ensures.falling
    c.in_err-raise_round.ensures.ticks).grow

pub returns-in_err-raise_round-clause-whole : goal.returns-in_err-raise_round-clause-whole
returns-in_err-raise_round-clause-whole g c = line_through _ _ _ _ c.loop-self.invariant.job
    (raised_kept (c.args.to + 1) _ _ (raised_on _ c.loop-self.self.stages _ _ c.deref_mut.ensures.value (c.args.to + 1)
    c.args.to _ _ _ _ (omega arith) c.loop-self.invariant.raised c.in_err-raise_round.ensures.grow
    c.in_err-raise_round.ensures.falling c.in_err-raise_round.ensures.ticks).grow)

pub returns-in_err-raise_round-clause-falling : goal.returns-in_err-raise_round-clause-falling
returns-in_err-raise_round-clause-falling g c =
    (raised_on _ c.loop-self.self.stages _ _ c.deref_mut.ensures.value (c.args.to + 1) c.args.to _ _ _ _ (omega arith)
    c.loop-self.invariant.raised c.in_err-raise_round.ensures.grow c.in_err-raise_round.ensures.falling
    c.in_err-raise_round.ensures.ticks).falling

pub returns-in_err-raise_round-clause-err : goal.returns-in_err-raise_round-clause-err
returns-in_err-raise_round-clause-err g c = on_err _ _ (raised_within (c.args.to + 1) _ _
    (raised_on _ c.loop-self.self.stages _ _ c.deref_mut.ensures.value (c.args.to + 1) c.args.to _ _ _ _
    (omega arith) c.loop-self.invariant.raised c.in_err-raise_round.ensures.grow c.in_err-raise_round.ensures.falling
    c.in_err-raise_round.ensures.ticks).grow)

pub returns-in_err-raise_round-clause-ticks : goal.returns-in_err-raise_round-clause-ticks
returns-in_err-raise_round-clause-ticks g c =
    (raised_on _ c.loop-self.self.stages _ _ c.deref_mut.ensures.value (c.args.to + 1) c.args.to _ _ _ _ (omega arith)
    c.loop-self.invariant.raised c.in_err-raise_round.ensures.grow c.in_err-raise_round.ensures.falling
    c.in_err-raise_round.ensures.ticks).ticks

pub returns-in_err-raise_round-clause-there : goal.returns-in_err-raise_round-clause-there
returns-in_err-raise_round-clause-there g c = λ have. absurd (lacks_not _ c.args.to _ _ c.deref.ensures.value
    (c.lacks_item.ensures.some c.loop-self-test.true) _ c.loop-self.invariant.raised.grow have)

pub loop-self-preserved : goal.loop-self-preserved
loop-self-preserved g c = record {
  raised = raised_on _ c.loop-self.self.stages _ _ c.deref_mut.ensures.value (c.args.to + 1) c.args.to _ _ _ _
      (omega arith)
      c.loop-self.invariant.raised c.in_ok-raise_round.ensures.grow c.in_ok-raise_round.ensures.falling
      c.in_ok-raise_round.ensures.ticks;
  source = c.in_ok-raise_round.ensures.source ∙ c.loop-self.invariant.source;
  there = λ have. absurd (lacks_not _ c.args.to _ _ c.deref.ensures.value
      (c.lacks_item.ensures.some c.loop-self-test.true) _ c.loop-self.invariant.raised.grow have);
  job = c.loop-self.invariant.job;
}

pub loop-self-smaller : goal.loop-self-smaller
loop-self-smaller g c = fewer_on _ c.loop-self.self.stages _ _ c.deref_mut.ensures.value c.args.to
    (still_lacks _ c.args.to _ _ c.deref.ensures.value (c.lacks_item.ensures.some c.loop-self-test.true))
    c.in_ok-raise_round.ensures.grow c.in_ok-raise_round.ensures.ok

pub returns-clause-whole : goal.returns-clause-whole
returns-clause-whole g c = line_through _ _ _ _ c.loop-self.invariant.job
    (raised_kept (c.args.to + 1) _ _ c.loop-self.invariant.raised.grow)

pub returns-clause-ok : goal.returns-clause-ok
returns-clause-ok g c = raised_reach (c.args.to + 1) _ _ c.loop-self.invariant.raised.grow
    (all_have _ _ _ _ (sym c.deref.ensures.value) (c.lacks_item.ensures.none c.loop-self-test.false))
    (each_there (λ _ s. length s.items ≤ prepared_of s) _ c.loop-self.self.stages.items
    (λ k d lt. (get_or c.loop-self.self.stages.items k d).behind))

pub returns-clause-there : goal.returns-clause-there
returns-clause-there g c = λ have.
    let still = raised_still (c.args.to + 1) _ _ _ _ c.loop-self.invariant.raised have in
    (refl, still.0, c.loop-self.invariant.there have, still.1)
