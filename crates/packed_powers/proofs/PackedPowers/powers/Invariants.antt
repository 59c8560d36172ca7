use Rattle.std.proofs.Common.{◌≡◌, ℕ, ◌<◌, length, get_or}
use Rattle.packed_powers.proofs.PackedPowers.powers.Given as goal

abbrev pub invariant-loop-i : goal.invariant-loop-i
invariant-loop-i l = record {
  eight : length l.powers ≡ 8;
  filled : (k : ℕ) → k < l.i → get_or l.powers k 0 ≡ get_or l.self.powers k 0;
}
