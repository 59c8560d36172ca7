use Rattle.std.proofs.Common.{◌≡◌, ◌*◌}
use Rattle.parts.specs.PartValue.{IsPartOf}
use Rattle.parts_speed.proofs.power_of_form.Given as goal

abbrev pub invariant-loop-k : goal.invariant-loop-k
invariant-loop-k l = record {
  degree : l.power.degree ≡ l.degree * l.k;
  part : IsPartOf l.ring l.power;
}
