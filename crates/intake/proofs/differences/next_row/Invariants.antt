use Rattle.std.proofs.Common.{◌≡◌, ℕ, ◌+◌, ◌*◌, ◌%◌, ◌<◌, ◌∷◌, get_or, vec_len}
use Rattle.intake.proofs.differences.next_row.Given as goal

abbrev pub invariant-loop-number : goal.invariant-loop-number
invariant-loop-number l = record {
  length : vec_len l.next ≡ l.number-index;
  below : l.below ≡ get_or (0 ∷ l.row) l.number-index 0;
  small : l.below < l.modulus.value;
  numbers : (p : ℕ) → p < l.number-index
      → get_or l.next.items p 0 ≡ (get_or (0 ∷ l.row) p 0 + l.constant * get_or l.row p 0) % l.modulus.value;
}
