use Rattle.std.proofs.Common.{◌≡◌, ◌<◌, ℕ, get_or}
use Rattle.parts.specs.Terms.{powers_in}
use Rattle.comparison.proofs.slices.same_term.Given as goal

abbrev pub invariant-loop-i : goal.invariant-loop-i
invariant-loop-i l = (k : ℕ) → k < l.i → get_or l.t.powers k 0 ≡ get_or (powers_in l.u.monomial) k 0
