use Rattle.std.proofs.Common.{◌≤◌}
use Rattle.pipe_tests.proofs.pipelines.count_same.Given as goal

abbrev pub invariant-loop-r : goal.invariant-loop-r
invariant-loop-r l = record { few : l.count ≤ l.r }
