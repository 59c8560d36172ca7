use Rattle.std.proofs.Common.{◌-◌, ◌≤◌, ℕ}
use Rattle.commands.specs.Progress.{SoFar}
use Rattle.commands.specs.Readings.{Begun}
use Rattle.commands.proofs.reading.read_job.Given as goal

abbrev pub invariant-loop-header : goal.invariant-loop-header
invariant-loop-header g l = record {
  far : (tally : ℕ) → SoFar l.fn.command l.lines (Begun l.header) (g.S.Source.left l.initial.source) (g.S.Source.left l.source)
      (g.K.Sink.written l.initial.sink) (g.K.Sink.written l.sink) tally tally;
  read : g.S.Source.faults l.initial.source ≤ g.S.Source.faults l.source;
  wrote : g.K.Sink.faults l.initial.sink ≤ g.K.Sink.faults l.sink;
  few : l.lines.number ≤ l.lines.place;
}

abbrev pub decreases-loop-header : goal.decreases-loop-header
decreases-loop-header g l = 1048576 - l.lines.place
