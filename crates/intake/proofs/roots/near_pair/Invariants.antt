use Rattle.std.proofs.Common.{ℕ, ◌<◌}
use Rattle.intake.specs.Apart.{AreTooNear}
use Rattle.intake.proofs.roots.near_pair.Given as goal

abbrev pub invariant-loop-first : goal.invariant-loop-first
invariant-loop-first l = (i j d : ℕ) → AreTooNear l.modulus.value l.roots i j d → l.first < i
