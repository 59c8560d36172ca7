use Rattle.std.proofs.Common.{◌-◌, ◌≤◌, ℕ, List, Option, length}
use Rattle.session.specs.Shared.{HasReaders}
use Rattle.commands.specs.declared.command.ScriptCommand.TheVariants.{Factor}
use Rattle.commands.specs.Factorings.{factoring_of, IsFactoring}
use Rattle.commands.specs.Progress.{SoFar}
use Rattle.commands.specs.Readings.{Factors}
use Rattle.commands.specs.SharedStates.{state_of, outer_of}
use Rattle.commands.proofs.pipeline.answer_by_pipeline.Given as goal

abbrev pub invariant-loop-request : goal.invariant-loop-request
invariant-loop-request g l = record {
  far : (left written : Option (List ℕ)) (first : ℕ)
      → SoFar Factor l.initial.lines (Factors (factoring_of (state_of l.initial.session))) left
      (g.S.Source.left l.initial.source) written (g.K.Sink.written l.initial.sink) first l.initial.tally
      → SoFar Factor l.lines (Factors (factoring_of (state_of l.session))) left (g.S.Source.left l.source) written
      (g.K.Sink.written l.sink) first l.tally;
  even : IsFactoring (state_of l.session);
  readers : HasReaders (length (state_of l.session).job.job.roots) (outer_of l.session);
  read : g.S.Source.faults l.initial.source ≤ g.S.Source.faults l.source;
  wrote : g.K.Sink.faults l.initial.sink ≤ g.K.Sink.faults l.sink;
}

abbrev pub decreases-loop-request : goal.decreases-loop-request
decreases-loop-request g l = 1048576 - l.lines.place
