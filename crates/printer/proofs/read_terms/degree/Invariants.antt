use Rattle.std.proofs.Common.{◌≡◌, ◌+◌, ◌*◌, ◌≤◌, drop}
use Rattle.parts.specs.Places.{dot}
use Rattle.parts.specs.Rings.{eight_weights}
use Rattle.printer.proofs.read_terms.degree.Given as goal

abbrev pub invariant-loop-i : goal.invariant-loop-i
invariant-loop-i l = record {
  going : l.degree + dot (drop l.i (eight_weights l.ring)) (drop l.i l.powers)
      ≡ dot (eight_weights l.ring) l.powers;
  small : l.degree ≤ 4194240 * l.i;
}
