use Rattle.std.proofs.Common.{◌≡◌, ◌+◌, ◌-◌, ◌*◌, ◌≤◌}
use Rattle.ps_model.specs.Plain.{key_of}
use Rattle.ps_model.specs.PlainLists.{plain_degree}
use Rattle.ps_model.proofs.PlainSums.{later_degree}
use Rattle.parts.specs.Rings.{eight_weights}
use Rattle.comparison.proofs.slices.degree.Given as goal

abbrev pub invariant-loop-i : goal.invariant-loop-i
invariant-loop-i l = record {
  so_far : l.degree + later_degree (eight_weights l.ring) l.term.powers l.i (8 - l.i)
      ≡ plain_degree (eight_weights l.ring) (key_of l.term);
  small : l.degree ≤ 4194240 * l.i;
}
