use Rattle.std.proofs.Common.{◌+◌, ◌-◌, ◌≤◌}
use Rattle.series_graph.proofs.SumsSoFar.{HasProducts}
use Rattle.series_graph.proofs.formulas.add_products.Given as goal

abbrev pub invariant-loop-end : goal.invariant-loop-end
invariant-loop-end l = record {
  within : l.end ≤ l.fn.r + 1;
  products : HasProducts l.fn.f l.fn.g l.fn.r (l.fn.r + 1 - l.end) l.fn.sum l.sum;
}

abbrev pub decreases-loop-end : goal.decreases-loop-end
decreases-loop-end l = l.end
