use Rattle.std.proofs.Common.{◌≡◌, ◌+◌, map}
use Rattle.stages.specs.Lines.{AllHave}
use Rattle.stages.specs.States.{StageState, state_by}
use Rattle.stages.specs.declared.stage.Stage.{Stage}
use Rattle.stages.proofs.Rounds.{InRound}
use Rattle.stages.proofs.raising.raise_all.Given as goal

abbrev pub invariant-loop-s : goal.invariant-loop-s
invariant-loop-s g l =
    let state : Stage g.row.R.Denot g.R.RowOut → StageState = λ s.
    state_by g.R.RowOut.capacity g.R.RowOut.name g.R.RowOut.items s.splitter s.row in record {
      round : InRound l.r l.s (map state l.initial.stages) (map state l.stages) l.initial.tally l.tally;
      source : g.I.RowSource.job l.input ≡ g.I.RowSource.job l.initial.input;
      there : AllHave (l.r + 1) (map state l.initial.stages) → l.input ≡ l.initial.input;
    }
