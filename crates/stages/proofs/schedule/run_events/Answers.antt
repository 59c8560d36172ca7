use Rattle.std.proofs.Common.{length, take, get_or, refl, sym, ◌∙◌, subst, arith}
use Rattle.parts.specs.JobRows.{IsPermitted}
use Rattle.stages.proofs.Events.{all_kept, kept_on, line_kept, line_through, room_next, permitted_next, none_yet}
use Rattle.stages.proofs.Events.{rest_after, few_after, all_done, ticks_more}
use Rattle.stages.proofs.LineTitles.{seen}
use Rattle.stages.proofs.Permits.{permitted_lower}
use Rattle.stages.proofs.Rounds.{few_prepared, tally_small}
use Rattle.stages.proofs.schedule.run_events.Goals as goal

pub loop-event-init : goal.loop-event-init
loop-event-init g c = record {
  kept = all_kept _;
  source = refl;
  rest = refl;
  few = none_yet _ (length c.args.stages.now) c.requires.empty;
  ticks = refl;
}

pub run_event-requires-clause-line : goal.run_event-requires-clause-line
run_event-requires-clause-line g c κs within =
    line_through _ _ _ _ c.loop-event.invariant.source c.loop-event.invariant.kept c.requires.line

pub run_event-requires-clause-room : goal.run_event-requires-clause-room
run_event-requires-clause-room g c κs within = room_next c.loop-event.event-index (length c.args.events.now) _ _ _
    c.loop-event-test.true c.requires.room c.loop-event.invariant.kept c.loop-event.invariant.few
    (seen _ c.loop-event.stages _ (omega arith))

pub run_event-requires-clause-permitted : goal.run_event-requires-clause-permitted
run_event-requires-clause-permitted g c κs within =
    permitted_next (IsPermitted _) c.loop-event.event-index (length c.args.events.now) _ _ c.loop-event-test.true
    (λ r le. subst (λ job. IsPermitted (take job.n job.weights) r) (sym c.loop-event.invariant.source)
    (permitted_lower _ r _ le c.requires.permitted))
    c.loop-event.invariant.few (seen _ c.loop-event.stages _ (omega arith))

pub run_event-requires-clause-tally : goal.run_event-requires-clause-tally
run_event-requires-clause-tally g c κs within =
    tally_small c.args.tally.now _ _ _ c.loop-event.invariant.ticks (omega (arith, c.requires.tally))
    (few_prepared _ c.loop-event.stages (g.I.RowSource.job c.args.input.now)
    (line_kept _ _ _ c.requires.line c.loop-event.invariant.kept)
    (λ x. let low = (g.met.R.RowOut g.world.𝓛 g.world.𝓜 g.world.𝓡 (λ s a. a, λ p. p, λ p. p, λ c. c)).within x.row in
    let ahead = x.ahead in omega arith))

pub returns-in_err-run_event-clause-kept : goal.returns-in_err-run_event-clause-kept
returns-in_err-run_event-clause-kept g c = kept_on _ _ _ c.loop-event.invariant.kept c.in_err-run_event.ensures.kept

pub loop-event-preserved : goal.loop-event-preserved
loop-event-preserved g c = record {
  kept = kept_on _ _ _ c.loop-event.invariant.kept c.in_ok-run_event.ensures.kept;
  source = c.in_ok-run_event.ensures.source ∙ c.loop-event.invariant.source;
  rest = rest_after _ _ _ c.args.events.now c.loop-event.event-index 0 c.loop-event-test.true
      c.in_ok-run_event.ensures.lengths c.loop-event.invariant.rest;
  few = few_after _ _ (get_or c.args.events.now c.loop-event.event-index 0) c.loop-event.event-index
      c.in_ok-run_event.ensures.lengths c.loop-event.invariant.few;
  ticks = ticks_more _ _ _ _ _ _ c.loop-event.invariant.ticks c.in_ok-run_event.ensures.ticks;
}

pub returns-clause-lengths : goal.returns-clause-lengths
returns-clause-lengths g c = all_done _ _ c.args.events.now c.loop-event.event-index (omega arith)
    c.loop-event.invariant.rest
