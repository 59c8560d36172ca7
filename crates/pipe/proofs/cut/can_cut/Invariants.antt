use Rattle.std.proofs.Common.{◌≡◌, ◌+◌, ◌≤◌, length, drop}
use Rattle.pipe.proofs.Greedy.{greedy}
use Rattle.pipe.proofs.CutsWithin.{blocks}
use Rattle.pipe.proofs.cut.can_cut.Given as goal

-- the blocks so far, and those of the weights that are left, are the greedy ones
abbrev pub invariant-loop-weight : goal.invariant-loop-weight
invariant-loop-weight l = record {
  fits : l.load ≤ l.limit;
  count : l.blocks + length (greedy l.limit l.load l.weight-index (drop l.weight-index l.weights))
      ≡ 1 + length (blocks l.limit l.weights);
  few : l.blocks ≤ l.weight-index + 1;
}
