use Rattle.std.proofs.Common.{◌≡◌, ◌≤◌, ◌+◌, length, map}
use Rattle.std.specs.Arc.{arc_value}
use Rattle.stages.specs.Lines.{AllHave}
use Rattle.stages.specs.States.{StageState, state_by}
use Rattle.stages.specs.declared.stage.Stage.{Stage}
use Rattle.stages.proofs.Raises.{AreRaised}
use Rattle.stages.proofs.line.Line.raise.Given as goal

abbrev pub invariant-loop-r : goal.invariant-loop-r
invariant-loop-r g l =
    let state : Stage g.row.R.Denot g.R.RowOut → StageState = λ s.
    state_by g.R.RowOut.capacity g.R.RowOut.name g.R.RowOut.items s.splitter s.row in record {
      raised : AreRaised (l.to + 1) (map state l.fn.self.stages.items) (map state l.self.stages.items)
          l.fn.tally l.tally;
      have : AllHave l.r (map state l.self.stages.items);
      source : g.I.RowSource.job l.input ≡ g.I.RowSource.job l.fn.input;
      there : AllHave (l.to + 1) (map state l.fn.self.stages.items) → l.input ≡ l.fn.input;
      job : arc_value l.self.job ≡ arc_value l.fn.self.job;
      none : length l.fn.self.stages.items ≡ 0 → 4294967295 ≤ l.r;
    }
