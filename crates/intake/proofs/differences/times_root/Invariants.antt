use Rattle.std.proofs.Common.{◌≡◌, ℕ, ◌+◌, ◌<◌, List, get_or, vec_len}
use Rattle.intake.proofs.RootProducts.{IsTimesPower}
use Rattle.intake.proofs.differences.times_root.Given as goal

abbrev pub invariant-loop : goal.invariant-loop
invariant-loop l = record {
  length : vec_len l.row ≡ vec_len l.initial.row + l.counter;
  residues : (p : ℕ) → get_or l.row.items p 0 < l.modulus.value;
  numbers : (ws : List ℕ)
      → IsTimesPower l.modulus.value ws l.fn.root.value l.counter l.initial.row.items l.row.items;
}
