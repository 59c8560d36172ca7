use Rattle.std.proofs.Common.{◌≡◌, ℕ, ◌+◌, ◌*◌, ◌∷◌}
use Rattle.demo.specs.Generator.{first_of, powers_by, second_of, state_behind, summand, terms_by}
use Rattle.demo.proofs.trees.tree.Given as goal

abbrev pub invariant-loop-power : goal.invariant-loop-power
invariant-loop-power l = (seed : ℕ) → l.fn.draws.state ≡ state_behind seed 4
    → (l.draws.state ≡ state_behind seed (4 + 2 * l.power))
    × (l.summands ≡ summand (powers_by l.fn.times.first l.fn.times.second l.fn.times.third l.fn.times.fourth)
    ∷ terms_by (first_of seed) (second_of seed) l.power)
