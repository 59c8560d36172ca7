use Rattle.std.proofs.Common.{◌≡◌, ℕ, ◌+◌, ◌≤◌, drop, get_or, map, sum_by}
use Rattle.stages.specs.Lines.{AreKept}
use Rattle.stages.specs.Schedules.{lengths_after, lengths_in}
use Rattle.stages.specs.States.{StageState, state_by, prepared_of}
use Rattle.stages.specs.declared.stage.Stage.{Stage}
use Rattle.stages.proofs.schedule.run_events.Given as goal

abbrev pub invariant-loop-event : goal.invariant-loop-event
invariant-loop-event g l =
    let state : Stage g.row.R.Denot g.R.RowOut → StageState = λ s.
    state_by g.R.RowOut.capacity g.R.RowOut.name g.R.RowOut.items s.splitter s.row in record {
      kept : AreKept (map state l.initial.stages) (map state l.stages);
      source : g.I.RowSource.job l.input ≡ g.I.RowSource.job l.initial.input;
      rest : lengths_after (lengths_in (map state l.stages)) (drop l.event-index l.events)
          ≡ lengths_after (lengths_in (map state l.initial.stages)) l.events;
      few : (j : ℕ) → get_or (lengths_in (map state l.stages)) j 0 ≤ l.event-index;
      ticks : l.tally + sum_by prepared_of (map state l.initial.stages)
          ≡ l.initial.tally + sum_by prepared_of (map state l.stages);
    }
