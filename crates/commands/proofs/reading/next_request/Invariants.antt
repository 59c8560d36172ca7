use Rattle.std.proofs.Common.{◌-◌, ◌≤◌, ℕ, List, Option}
use Rattle.commands.specs.Progress.{SoFar}
use Rattle.commands.specs.Readings.{Reading, HasRing}
use Rattle.commands.proofs.reading.next_request.Given as goal

abbrev pub invariant-loop-lines : goal.invariant-loop-lines
invariant-loop-lines g l = record {
  far : (r : Reading) (left written : Option (List ℕ)) (tally tally' : ℕ) → HasRing l.ring r
      → SoFar l.command l.initial.lines r left (g.S.Source.left l.initial.source) written
      (g.K.Sink.written l.initial.sink) tally tally'
      → SoFar l.command l.lines r left (g.S.Source.left l.source) written (g.K.Sink.written l.sink) tally tally';
  read : g.S.Source.faults l.initial.source ≤ g.S.Source.faults l.source;
  wrote : g.K.Sink.faults l.initial.sink ≤ g.K.Sink.faults l.sink;
  place : l.initial.lines.place ≤ l.lines.place;
  few : l.lines.number ≤ l.lines.place;
}

abbrev pub decreases-loop-lines : goal.decreases-loop-lines
decreases-loop-lines g l = 1048576 - l.lines.place
