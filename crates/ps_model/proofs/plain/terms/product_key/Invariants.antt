-- proofs/plain/terms/product_key/Invariants.antt
use Rattle.std.proofs.Common.{◌≡◌, ℕ, ◌+◌, ◌<◌, ◌≤◌, get_or, length}
use Rattle.ps_model.proofs.plain.terms.product_key.Given as goal

abbrev pub invariant-loop-i : goal.invariant-loop-i
invariant-loop-i l = record {
  long : length l.powers ≡ 8;
  done : (j : ℕ) → j < l.i → get_or l.powers j 0 ≡ get_or l.a.powers j 0 + get_or l.b.powers j 0;
  left : (j : ℕ) → l.i ≤ j → get_or l.powers j 0 ≡ get_or l.a.powers j 0;
}
