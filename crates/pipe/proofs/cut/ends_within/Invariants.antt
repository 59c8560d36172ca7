use Rattle.std.proofs.Common.{◌≡◌, ◌≤◌, ◌++◌, drop}
use Rattle.pipe.proofs.Greedy.{greedy}
use Rattle.pipe.proofs.CutsWithin.{blocks}
use Rattle.pipe.proofs.cut.ends_within.Given as goal

-- the ends so far, and those of the weights that are left, are the greedy ones
abbrev pub invariant-loop-place : goal.invariant-loop-place
invariant-loop-place l = record {
  fits : l.load ≤ l.limit;
  ends : l.ends.items ++ greedy l.limit l.load l.place (drop l.place l.weights) ≡ blocks l.limit l.weights;
}
