use Rattle.std.proofs.Common.{◌≡◌}
use Rattle.parts.specs.PartValue.{IsPartOf}
use Rattle.parts_speed.proofs.form_of_degree.Given as goal

abbrev pub invariant-loop-i : goal.invariant-loop-i
invariant-loop-i l = record { degree : l.form.degree ≡ l.degree; part : IsPartOf l.ring l.form }
