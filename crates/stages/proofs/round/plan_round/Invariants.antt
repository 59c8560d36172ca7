use Rattle.std.proofs.Common.{◌≡◌, ◌≤◌, length, map}
use Rattle.std.specs.Vec.{vec_capacity}
use Rattle.stages.specs.States.{StageState, state_by}
use Rattle.stages.specs.declared.stage.Stage.{Stage}
use Rattle.stages.proofs.RoundPlans.{AreFirstPlans}
use Rattle.stages.proofs.round.plan_round.Given as goal

abbrev pub invariant-loop-s : goal.invariant-loop-s
invariant-loop-s g l =
    let state : Stage g.row.R.Denot g.R.RowOut → StageState = λ s.
    state_by g.R.RowOut.capacity g.R.RowOut.name g.R.RowOut.items s.splitter s.row in record {
      planned : AreFirstPlans l.to (g.I.RowSource.job l.initial.input) (map state l.stages) l.plan.items l.s;
      source : g.I.RowSource.job l.input ≡ g.I.RowSource.job l.initial.input;
      room : length l.stages ≤ vec_capacity l.plan;
    }
