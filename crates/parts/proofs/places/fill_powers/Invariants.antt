use Rattle.std.proofs.Common.{◌≡◌, ◌≤◌, ◌++◌, take, drop}
use Rattle.std.specs.Option.{option_map}
use Rattle.parts.specs.Places.{powers_at}
use Rattle.parts.proofs.places.fill_powers.Given as goal

abbrev pub invariant-loop-j : goal.invariant-loop-j
invariant-loop-j l = record {
  low : l.left ≤ l.degree;
  so_far : powers_at l.degree l.weights l.degree l.at ≡
      option_map (λ zs. take l.j l.powers ++ zs) (powers_at l.degree (drop l.j l.weights) l.left l.rest);
}
