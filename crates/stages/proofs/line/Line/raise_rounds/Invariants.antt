use Rattle.std.proofs.Common.{◌≡◌, ◌+◌, map}
use Rattle.std.specs.Arc.{arc_value}
use Rattle.stages.specs.Lines.{AllHave}
use Rattle.stages.specs.States.{StageState, state_by}
use Rattle.stages.specs.declared.stage.Stage.{Stage}
use Rattle.stages.proofs.Raises.{AreRaised}
use Rattle.stages.proofs.RoundRaises.{missing}
use Rattle.stages.proofs.line.Line.raise_rounds.Given as goal

abbrev pub invariant-loop-self : goal.invariant-loop-self
invariant-loop-self g l =
    let state : Stage g.row.R.Denot g.R.RowOut → StageState = λ s.
    state_by g.R.RowOut.capacity g.R.RowOut.name g.R.RowOut.items s.splitter s.row in record {
      raised : AreRaised (l.to + 1) (map state l.fn.self.stages.items) (map state l.self.stages.items)
          l.fn.tally l.tally;
      source : g.I.RowSource.job l.input ≡ g.I.RowSource.job l.fn.input;
      there : AllHave (l.to + 1) (map state l.fn.self.stages.items) → l.input ≡ l.fn.input;
      job : arc_value l.self.job ≡ arc_value l.fn.self.job;
    }

abbrev pub decreases-loop-self : goal.decreases-loop-self
decreases-loop-self g l =
    let state : Stage g.row.R.Denot g.R.RowOut → StageState = λ s.
    state_by g.R.RowOut.capacity g.R.RowOut.name g.R.RowOut.items s.splitter s.row in
    missing l.to (map state l.self.stages.items)
