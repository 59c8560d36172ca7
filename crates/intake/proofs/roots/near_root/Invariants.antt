use Rattle.std.proofs.Common.{ℕ, ◌+◌, ◌<◌}
use Rattle.intake.specs.Apart.{AreTooNear}
use Rattle.intake.proofs.roots.near_root.Given as goal

abbrev pub invariant-loop-second : goal.invariant-loop-second
invariant-loop-second l = record {
  above : l.place < l.second;
  before : (j d : ℕ) → AreTooNear l.modulus.value l.roots (l.place + 1) j d → l.second < j;
}
