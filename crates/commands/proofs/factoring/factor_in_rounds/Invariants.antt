use Rattle.std.proofs.Common.{◌-◌, ◌≤◌}
use Rattle.commands.specs.declared.command.ScriptCommand.TheVariants.{Factor}
use Rattle.commands.specs.Progress.{SoFar}
use Rattle.commands.specs.Readings.{Factors}
use Rattle.commands.proofs.factoring.factor_in_rounds.Given as goal

abbrev pub invariant-loop-factoring : goal.invariant-loop-factoring
invariant-loop-factoring g l = record {
  far : SoFar Factor l.lines (Factors l.factoring) (g.S.Source.left l.fn.source) (g.S.Source.left l.source)
      (g.K.Sink.written l.fn.sink) (g.K.Sink.written l.sink) l.fn.tally l.tally;
  read : g.S.Source.faults l.fn.source ≤ g.S.Source.faults l.source;
  wrote : g.K.Sink.faults l.fn.sink ≤ g.K.Sink.faults l.sink;
}

abbrev pub decreases-loop-factoring : goal.decreases-loop-factoring
decreases-loop-factoring g l = 1048576 - l.lines.place
