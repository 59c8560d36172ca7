use Rattle.std.proofs.Common.{◌≡◌, ℕ, ◌<◌, List, get_or}
use Rattle.intake.specs.Differences.{scaled_at}
use Rattle.intake.proofs.differences.first_difference.Given as goal

abbrev pub invariant-loop-power : goal.invariant-loop-power
invariant-loop-power l = (ws : List ℕ) (p : ℕ) → p < l.power
    → get_or l.input p 0 ≡ scaled_at l.fn.modulus.value ws l.lead l.roots p
