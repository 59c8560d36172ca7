use Rattle.std.proofs.Common.{ℕ, ◌-◌, ◌≤◌, All}
use Rattle.pipe.specs.Cuts.{HasCut}
use Rattle.pipe.proofs.cut.least_limit.Given as goal

-- the greater limit is enough, and none below the lower one is
abbrev pub invariant-loop-low : goal.invariant-loop-low
invariant-loop-low l = record {
  each : All (λ w. w ≤ l.low) l.weights;
  enough : HasCut l.workers l.high l.weights;
  least : (limit : ℕ) → HasCut l.workers limit l.weights → l.low ≤ limit;
}

abbrev pub decreases-loop-low : goal.decreases-loop-low
decreases-loop-low l = l.high - l.low
