-- The weights of a ring: those of its variables, and 1 past them.
use Rattle.std.proofs.Common.{◌≡◌, ℕ, ◌<◌, ◌≤◌, List, take, drop, replicate, get_or, ap, ◌∙◌, subst, arith, All}
use Rattle.std.proofs.lemmas.List.{take-append-drop, get_or-replicate}
use Rattle.std.proofs.lemmas.List.Elements.{All-append, All-weaker}
use Rattle.ps_model.specs.AcceptedJob.{AreWeights}
use Rattle.parts.specs.Rings.{variables_of, weights_of}
use Rattle.parts.specs.declared.rings.Ring.{Ring}

-- what holds of the first and of the others holds of all
in_both : (P : ℕ → Type 0) (n : ℕ) (ws : List ℕ) → All P (take n ws) → All P (drop n ws) → All P ws
in_both P n ws first others = subst (All P) (take-append-drop n ws) (All-append P (take n ws) (drop n ws) first others)

pub weights-positive : (n : ℕ) (ws : List ℕ) → AreWeights n ws → All (λ w. 0 < w) ws
weights-positive n ws are = in_both (λ w. 0 < w) n ws
    (All-weaker (λ w. (1 ≤ w) × (w ≤ 64)) (λ w. 0 < w) (λ w h. omega (arith, h.0)) (take n ws) are.of_variables)
    (All-weaker (λ w. w ≡ 1) (λ w. 0 < w) (λ w h. omega arith) (drop n ws) are.others)

pub weights-light : (n : ℕ) (ws : List ℕ) → AreWeights n ws → All (λ w. w ≤ 64) ws
weights-light n ws are = in_both (λ w. w ≤ 64) n ws
    (All-weaker (λ w. (1 ≤ w) × (w ≤ 64)) (λ w. w ≤ 64) (λ w h. h.1) (take n ws) are.of_variables)
    (All-weaker (λ w. w ≡ 1) (λ w. w ≤ 64) (λ w h. omega arith) (drop n ws) are.others)

-- where all weights are 1
pub weight-one : (ring : Ring) (i : ℕ) → weights_of ring ≡ replicate (variables_of ring) 1 → i < variables_of ring →
    get_or (weights_of ring) i 0 ≡ 1
weight-one ring i ones lt = ap (λ ws. get_or ws i 0) ones ∙ get_or-replicate (variables_of ring) i 1 0 lt
