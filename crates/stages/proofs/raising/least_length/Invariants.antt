use Rattle.std.proofs.Common.{◌≡◌, ℕ, ◌<◌, ◌≤◌, length, get_or}
use Rattle.stages.specs.declared.stage.Stage.{Stage}
use Rattle.stages.proofs.raising.least_length.Given as goal

abbrev pub invariant-loop-stage : goal.invariant-loop-stage
invariant-loop-stage g l = record {
  least : (k : ℕ) (d : Stage g.row.R.Denot g.R.RowOut) → k < l.stage-index
      → l.least ≤ length (g.R.RowOut.items (get_or l.stages k d).row);
  none : l.stage-index ≡ 0 → l.least ≡ 4294967295;
}
