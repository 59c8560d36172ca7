use Rattle.std.proofs.Common.{◌≡◌, ℕ, ◌<◌, length, get_or, None}
use Rattle.std.specs.Arc.{arc_value}
use Rattle.stages.specs.Splitters.{SplitterValue}
use Rattle.stages.proofs.line.make_splitters.Given as goal

abbrev pub invariant-loop-stage : goal.invariant-loop-stage
invariant-loop-stage l = record {
  count : length l.splitters.items ≡ l.stage;
  each : (s : ℕ) (d : SplitterValue) → s < length l.splitters.items → get_or l.splitters.items s d
      ≡ record { ring = l.ring; title = record { job = arc_value l.job; stage = s }; preparation = None };
}
