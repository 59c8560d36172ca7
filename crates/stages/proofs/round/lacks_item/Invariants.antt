use Rattle.std.proofs.Common.{ℕ, ◌<◌, length, get_or}
use Rattle.stages.specs.declared.stage.Stage.{Stage}
use Rattle.stages.proofs.round.lacks_item.Given as goal

abbrev pub invariant-loop-s : goal.invariant-loop-s
invariant-loop-s g l = (k : ℕ) (d : Stage g.row.R.Denot g.R.RowOut) → k < l.s
    → l.to < length (g.R.RowOut.items (get_or l.stages k d).row)
