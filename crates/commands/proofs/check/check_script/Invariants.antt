use Rattle.std.proofs.Common.{◌≡◌, ◌-◌, ◌≤◌}
use Rattle.commands.proofs.CheckRuns.{CheckFar}
use Rattle.commands.proofs.check.check_script.Given as goal

abbrev pub invariant-loop-checking : goal.invariant-loop-checking
invariant-loop-checking g l = record {
  far : CheckFar l.lines l.checking (g.S.Source.left l.initial.source) (g.S.Source.left l.source);
  read : g.S.Source.faults l.initial.source ≤ g.S.Source.faults l.source;
  wrote : g.K.Sink.faults l.sink ≡ g.K.Sink.faults l.initial.sink;
  written : g.K.Sink.written l.sink ≡ g.K.Sink.written l.initial.sink;
  tally : l.tally ≡ l.initial.tally;
}

abbrev pub decreases-loop-checking : goal.decreases-loop-checking
decreases-loop-checking g l = 1048576 - l.lines.place
