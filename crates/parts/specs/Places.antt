-- The place of a monomial of degree d among cells, by its powers of all variables but the last.
--     dot xs ys      the sum of the products
--     size d ws      how many places the variables of the weights ws have; the last one's power is
--         what the others leave
--     multipliers d ws      what a place counts for each power
--     powers_at d ws left i      the powers at the place i, whose weights add to left; None where
--         no monomial has that place
--     sum_to n f      f 0 + .. + f n
--     monomials_at ws d      how many monomials have the degree d by the weights ws; without
--         variables 1 has degree 0
--     IsDense ws d      sums of degree d are kept in cells: there are at most 2^20 of them, or at
--         most 2^24 and at most eight for each monomial
use Rattle.std.specs.Prelude.{ℕ, zero, suc, ◌+◌, ◌-◌, ◌*◌, ◌/◌, ◌%◌, ◌^◌, ◌≤◌, ◌==◌, ◌⊎◌, nat_le, cond, List, []}
use Rattle.std.specs.Prelude.{◌∷◌, Option, Some, None}
use Rattle.std.specs.Option.{option_map}

abbrev pub dot : List ℕ → List ℕ → ℕ
dot [] ys = 0
dot (x ∷ xs) [] = 0
dot (x ∷ xs) (y ∷ ys) = x * y + dot xs ys

abbrev pub size_from : ℕ → ℕ → List ℕ → ℕ
size_from d w [] = 1
size_from d w (v ∷ ws) = suc (d / w) * size_from d v ws

abbrev pub size : ℕ → List ℕ → ℕ
size d [] = 0
size d (w ∷ ws) = size_from d w ws

abbrev pub multipliers : ℕ → List ℕ → List ℕ
multipliers d [] = []
multipliers d (w ∷ ws) = size d ws ∷ multipliers d ws

abbrev pub powers_from : ℕ → ℕ → List ℕ → ℕ → ℕ → Option (List ℕ)
powers_from d w [] left i = cond (left % w == 0) (Some (left / w ∷ [])) None
powers_from d w (v ∷ ws) left i =
    cond (nat_le (i / size_from d v ws) (left / w))
    (option_map (λ xs. i / size_from d v ws ∷ xs)
    (powers_from d v ws (left - w * (i / size_from d v ws)) (i % size_from d v ws)))
    None

abbrev pub powers_at : ℕ → List ℕ → ℕ → ℕ → Option (List ℕ)
powers_at d [] left i = None
powers_at d (w ∷ ws) left i = powers_from d w ws left i

-- the sum of f from 0 to n
abbrev pub sum_to : ℕ → (ℕ → ℕ) → ℕ
sum_to zero f = f 0
sum_to (suc n) f = f 0 + sum_to n (λ k. f (suc k))

-- the monomials of degree d: for each power of the first variable those of the others
abbrev pub monomials_at : List ℕ → ℕ → ℕ
monomials_at [] d = cond (d == 0) 1 0
monomials_at (w ∷ ws) d = sum_to (d / w) (λ k. monomials_at ws (d - w * k))

-- cells take at most 2^20 places, or at most 2^24 and at most eight for each monomial
abbrev pub IsDense : List ℕ → ℕ → Type 0
IsDense ws d = (size d ws ≤ 2 ^ 20) ⊎ ((size d ws ≤ 2 ^ 24) × (size d ws ≤ 8 * monomials_at ws d))
