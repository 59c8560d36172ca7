use Rattle.std.proofs.Common.{◌≡◌}
use Rattle.parts_tests.proofs.larger_parts.four_variables.Given as goal

abbrev pub invariant-loop-i : goal.invariant-loop-i
invariant-loop-i l = record {
  ring : l.total.ring ≡ l.ring;
  degree : l.total.degree ≡ 1;
}
