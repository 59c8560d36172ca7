-- The weights of all eight variables.
use Rattle.std.proofs.Common.{◌≡◌, ℕ, ◌-◌, ◌<◌, ◌≤◌, length, drop, get_or, sym, ◌∙◌, ap, arith}
use Rattle.std.specs.Prelude.{max}
use Rattle.std.proofs.lemmas.List.{get_or-drop, length-drop, get_or-take}
use Rattle.parts.specs.Rings.{weights_of, eight_weights}
use Rattle.parts.specs.declared.rings.Ring.{Ring}

-- past the ring's variables
pub weight_past : (ring : Ring) (i : ℕ) → ring.n ≤ i → i < 8 → 1 ≡ get_or (eight_weights ring) i 0
weight_past ring i le lt =
    let many = ring.many in
    let within : i - ring.n < length (drop ring.n ring.weights) = omega (arith, length-drop ring.n ring.weights) in
    sym (ring.past (i - ring.n) 0 within) ∙ get_or-drop ring.n ring.weights (i - ring.n) 0
    ∙ ap (λ k. get_or ring.weights k 0) (omega arith)

-- one of the ring's variables
pub weight_within : (ring : Ring) (i : ℕ) → i < ring.n → get_or (weights_of ring) i 0 ≡ get_or (eight_weights ring) i 0
weight_within ring i lt = get_or-take ring.n ring.weights i 0 lt

-- none is 0
pub weight_is : (ring : Ring) (i w : ℕ) → i < 8 → w ≡ get_or (eight_weights ring) i 0
    → w ≡ max 1 (get_or (eight_weights ring) i 0)
weight_is ring i w lt is =
    let many = ring.many in
    let some = ring.positive i 0 (omega arith) in
    omega arith
