use Rattle.std.proofs.Common.{◌≡◌, [], ◌∷◌, refl, ◌∙◌}
use Rattle.ps_model.specs.Notation.{shifted}
use Rattle.ps_model.specs.SeriesRing.{ring}
use Rattle.ps_model.specs.Job.{series_ring}
use Rattle.ps_model.specs.Examples.{ring_modulo, written}
use Rattle.ps_model.proofs.FormalSums.{same_sums}
use Rattle.ps_model.proofs.ShiftSums.{shifted_listed}
use Rattle.ps_model.proofs.examples.shifts.Goals as goal

square : shifted 3 (written (ring_modulo 7) ((1, [], 2) ∷ []))
    ≡ written (ring_modulo 7) ((2, [], 0) ∷ (6, [], 1) ∷ (1, [], 2) ∷ [])
unfolding series_ring
square = shifted_listed (ring_modulo 7) 3 _ ∙ same_sums (ring (ring_modulo 7)) _ _ refl

back : shifted 4 (written (ring_modulo 7) ((2, [], 0) ∷ (6, [], 1) ∷ (1, [], 2) ∷ []))
    ≡ written (ring_modulo 7) ((1, [], 2) ∷ [])
unfolding series_ring
back = shifted_listed (ring_modulo 7) 4 _ ∙ same_sums (ring (ring_modulo 7)) _ _ refl

variable : shifted 10 (written (ring_modulo 15) ((1, 1 ∷ [], 1) ∷ []))
    ≡ written (ring_modulo 15) ((10, 1 ∷ [], 0) ∷ (1, 1 ∷ [], 1) ∷ [])
unfolding series_ring
variable = shifted_listed (ring_modulo 15) 10 _ ∙ same_sums (ring (ring_modulo 15)) _ _ refl

pub returns : goal.returns
returns c = record { square = square; back = back; variable = variable }
