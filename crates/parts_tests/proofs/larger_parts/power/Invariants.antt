use Rattle.std.proofs.Common.{◌≡◌}
use Rattle.parts.specs.PartValue.{IsPartOf}
use Rattle.parts_tests.proofs.larger_parts.power.Given as goal

abbrev pub invariant-loop : goal.invariant-loop
invariant-loop l = record {
  degree : l.power.degree ≡ l.counter;
  part : IsPartOf l.ring l.power;
}
