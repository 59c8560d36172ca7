use Rattle.std.proofs.Common.{◌≡◌, ◌++◌, drop}
use Rattle.ps_model.specs.Factors.{total_times}
use Rattle.pipe.specs.Cuts.{root_weights}
use Rattle.pipe.proofs.blocks_of.weights_of.Given as goal

-- the weights so far and those of the roots that are left
abbrev pub invariant-loop-root : goal.invariant-loop-root
invariant-loop-root l = record {
  left : l.left ≡ total_times (drop l.root-index l.roots);
  weights : l.weights.items ++ root_weights (drop l.root-index l.roots) ≡ root_weights l.roots;
}
