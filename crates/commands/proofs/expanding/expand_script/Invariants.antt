use Rattle.std.proofs.Common.{◌-◌, ◌≤◌, ℕ}
use Rattle.commands.specs.declared.command.ScriptCommand.TheVariants.{Expand}
use Rattle.commands.specs.Progress.{SoFar}
use Rattle.commands.specs.Readings.{Inputs}
use Rattle.commands.proofs.expanding.expand_script.Given as goal

abbrev pub invariant-loop-expanding : goal.invariant-loop-expanding
invariant-loop-expanding g l = record {
  far : (tally : ℕ) → SoFar Expand l.lines (Inputs l.expanding) (g.S.Source.left l.fn.source)
      (g.S.Source.left l.source) (g.K.Sink.written l.fn.sink) (g.K.Sink.written l.sink) tally tally;
  read : g.S.Source.faults l.fn.source ≤ g.S.Source.faults l.source;
  wrote : g.K.Sink.faults l.fn.sink ≤ g.K.Sink.faults l.sink;
}

abbrev pub decreases-loop-expanding : goal.decreases-loop-expanding
decreases-loop-expanding g l = 1048576 - l.lines.place
