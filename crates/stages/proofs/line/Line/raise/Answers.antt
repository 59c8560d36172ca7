use Rattle.std.proofs.Common.{◌≤◌, ◌+◌, length, get_or, take, refl, arith, sym, subst, ap, ◌∙◌}
use Rattle.parts.specs.JobRows.{IsPermitted}
use Rattle.stages.specs.States.{prepared_of}
use Rattle.stages.proofs.Events.{line_through}
use Rattle.stages.proofs.LineTitles.{stages_of, of_stages, each_there}
use Rattle.stages.proofs.Permits.{permitted_lower}
use Rattle.stages.proofs.Raises.{raised_on, have_on, line_on, line_now, room_now}
use Rattle.stages.proofs.Raises.{raised_kept, raised_within, raised_reach, raised_still, have_now}
use Rattle.stages.proofs.Raises.{not_raised, all_have, some_stages}
use Rattle.stages.proofs.Rounds.{on_err}
use Rattle.stages.proofs.line.Line.raise.Goals as goal

pub loop-r-init : goal.loop-r-init
loop-r-init g c = record {
  raised = not_raised _ _ _;
  have = all_have _ _ _ _ (sym c.deref.ensures.value) c.least_length-r.ensures.have;
  none = λ empty. let most = c.least_length-r.ensures.none (ap length c.deref.ensures.value ∙ empty) in omega arith;
  source = refl;
  there = λ have. refl;
  job = refl;
}

pub raise_all-requires-clause-have : goal.raise_all-requires-clause-have
raise_all-requires-clause-have g c κs within = all_have _ _ _ _ c.deref_mut.ensures.value c.loop-r.invariant.have

pub raise_all-requires-clause-line : goal.raise_all-requires-clause-line
raise_all-requires-clause-line g c κs within = line_now _ _ _ c.deref_mut.ensures.value _ _
    (c.loop-r.invariant.source ∙ c.requires.source ∙ sym c.loop-r.invariant.job)
    (stages_of _ _ c.loop-r.self.stages.items c.loop-r.self.accepted (c.loop-r.self.of_job (some_stages _ _
    c.loop-r.self.stages.items _ c.loop-r.r c.args.to c.loop-r.invariant.raised.grow c.loop-r.invariant.none
    (omega arith) c.requires.permitted.0)))

pub raise_all-requires-clause-room : goal.raise_all-requires-clause-room
raise_all-requires-clause-room g c κs within = room_now _ _ _ c.deref_mut.ensures.value _ c.loop-r.r c.args.to _
    (omega arith) c.requires.room c.loop-r.invariant.raised.grow

pub raise_all-requires-clause-permitted : goal.raise_all-requires-clause-permitted
raise_all-requires-clause-permitted g c κs within = subst (λ job. IsPermitted (take job.n job.weights) c.loop-r.r)
    (sym (c.loop-r.invariant.source ∙ c.requires.source))
    (permitted_lower _ _ c.args.to (omega arith) c.requires.permitted)

pub invariant_of-self-clause-of_job : goal.invariant_of-self-clause-of_job
invariant_of-self-clause-of_job g c some = of_stages _ _ _
    (line_on _ c.loop-r.self.stages _ _ c.deref_mut.ensures.value _ _
    (stages_of _ _ c.loop-r.self.stages.items c.loop-r.self.accepted (c.loop-r.self.of_job (some_stages _ _
    c.loop-r.self.stages.items _ c.loop-r.r c.args.to c.loop-r.invariant.raised.grow c.loop-r.invariant.none
    (omega arith) c.requires.permitted.0))) c.raise_all.ensures.grow)

pub returns-in_err-raise_all-clause-kept : goal.returns-in_err-raise_all-clause-kept
returns-in_err-raise_all-clause-kept g c = raised_kept (c.args.to + 1) _ _
    (raised_on _ c.loop-r.self.stages _ _ c.deref_mut.ensures.value (c.args.to + 1) c.loop-r.r _ _ _ _
    (omega arith) c.loop-r.invariant.raised
    c.in_err-raise_all.ensures.grow c.in_err-raise_all.ensures.falling c.in_err-raise_all.ensures.ticks).grow

pub returns-in_err-raise_all-clause-whole : goal.returns-in_err-raise_all-clause-whole
returns-in_err-raise_all-clause-whole g c = line_through _ _ _ _ c.loop-r.invariant.job
    (raised_kept (c.args.to + 1) _ _ (raised_on _ c.loop-r.self.stages _ _ c.deref_mut.ensures.value (c.args.to + 1)
    c.loop-r.r _ _ _ _ (omega arith) c.loop-r.invariant.raised c.in_err-raise_all.ensures.grow
    c.in_err-raise_all.ensures.falling c.in_err-raise_all.ensures.ticks).grow)

pub returns-in_err-raise_all-clause-falling : goal.returns-in_err-raise_all-clause-falling
returns-in_err-raise_all-clause-falling g c =
    (raised_on _ c.loop-r.self.stages _ _ c.deref_mut.ensures.value (c.args.to + 1) c.loop-r.r _ _ _ _ (omega arith)
    c.loop-r.invariant.raised c.in_err-raise_all.ensures.grow c.in_err-raise_all.ensures.falling
    c.in_err-raise_all.ensures.ticks).falling

pub returns-in_err-raise_all-clause-err : goal.returns-in_err-raise_all-clause-err
returns-in_err-raise_all-clause-err g c = on_err _ _ (raised_within (c.args.to + 1) _ _
    (raised_on _ c.loop-r.self.stages _ _ c.deref_mut.ensures.value (c.args.to + 1) c.loop-r.r _ _ _ _
    (omega arith) c.loop-r.invariant.raised
    c.in_err-raise_all.ensures.grow c.in_err-raise_all.ensures.falling c.in_err-raise_all.ensures.ticks).grow)

pub returns-in_err-raise_all-clause-ticks : goal.returns-in_err-raise_all-clause-ticks
returns-in_err-raise_all-clause-ticks g c =
    (raised_on _ c.loop-r.self.stages _ _ c.deref_mut.ensures.value (c.args.to + 1) c.loop-r.r _ _ _ _ (omega arith)
    c.loop-r.invariant.raised c.in_err-raise_all.ensures.grow c.in_err-raise_all.ensures.falling
    c.in_err-raise_all.ensures.ticks).ticks

pub returns-in_err-raise_all-clause-there : goal.returns-in_err-raise_all-clause-there
returns-in_err-raise_all-clause-there g c = λ have. absurd (c.in_err-raise_all.ensures.err (have_now _
    (c.args.to + 1) c.loop-r.r _ _ _ c.deref_mut.ensures.value (omega arith) c.loop-r.invariant.raised.grow have))

pub loop-r-preserved : goal.loop-r-preserved
loop-r-preserved g c = record {
  raised = raised_on _ c.loop-r.self.stages _ _ c.deref_mut.ensures.value (c.args.to + 1) c.loop-r.r _ _ _ _
      (omega arith)
      c.loop-r.invariant.raised c.in_ok-raise_all.ensures.grow c.in_ok-raise_all.ensures.falling
      c.in_ok-raise_all.ensures.ticks;
  have = have_on _ c.loop-r.self.stages _ _ c.deref_mut.ensures.value _ c.in_ok-raise_all.ensures.grow
      c.in_ok-raise_all.ensures.ok;
  source = c.in_ok-raise_all.ensures.source ∙ c.loop-r.invariant.source;
  there = λ have. c.in_ok-raise_all.ensures.there (have_now _ (c.args.to + 1) c.loop-r.r _ _ _
      c.deref_mut.ensures.value (omega arith) c.loop-r.invariant.raised.grow have) ∙ c.loop-r.invariant.there have;
  job = c.loop-r.invariant.job;
  none = λ empty. let past = c.loop-r.invariant.none empty in omega arith;
}

pub returns-clause-whole : goal.returns-clause-whole
returns-clause-whole g c = line_through _ _ _ _ c.loop-r.invariant.job
    (raised_kept (c.args.to + 1) _ _ c.loop-r.invariant.raised.grow)

pub returns-clause-ok : goal.returns-clause-ok
returns-clause-ok g c = raised_reach (c.args.to + 1) _ _ c.loop-r.invariant.raised.grow
    (λ s d lt. let have = c.loop-r.invariant.have s d lt in let past = c.loop-r-test.false in omega arith)
    (each_there (λ _ s. length s.items ≤ prepared_of s) _ c.loop-r.self.stages.items
    (λ k d lt. (get_or c.loop-r.self.stages.items k d).behind))

pub returns-clause-there : goal.returns-clause-there
returns-clause-there g c = λ have.
    let still = raised_still (c.args.to + 1) _ _ _ _ c.loop-r.invariant.raised have in
    (refl, still.0, c.loop-r.invariant.there have, still.1)
