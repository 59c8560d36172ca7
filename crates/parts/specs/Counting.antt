-- The monomials up to a degree, by the weights of the variables.
--     powers_up_to ws d      the powers of the variables in each monomial of degree at most d; of no
--         variable those of 1 alone
--     monomials_up_to ws d      how many monomials there are
--     AreCounts count D counts      the count at place d is count d, for each d up to D
--     AddsVariable w D old new      with one more variable, of weight w: up to degree D a count is that
--         without it, and from w on added to the new count at the degree less w
use Rattle.std.specs.Prelude.{◌≡◌, ℕ, suc, ◌+◌, ◌-◌, ◌*◌, ◌/◌, ◌<◌, ◌≤◌, List, [], ◌∷◌, length, map, flat_map}
use Rattle.std.specs.Prelude.{slice_index_or}
use Rattle.std.specs.List.{range_with_len}

-- each power x of the first variable, before the powers of the others up to what x leaves
unfoldable pub powers_up_to : List ℕ → ℕ → List (List ℕ)
powers_up_to [] d = [] ∷ []
powers_up_to (w ∷ ws) d =
    flat_map (λ x. map (λ xs. x ∷ xs) (powers_up_to ws (d - w * x))) (range_with_len 0 (suc (d / w)))

abbrev pub monomials_up_to : List ℕ → ℕ → ℕ
monomials_up_to ws d = length (powers_up_to ws d)

-- a table of counts by degree
abbrev pub AreCounts : (ℕ → ℕ) → ℕ → List ℕ → Type 0
AreCounts count D counts = (d : ℕ) → d ≤ D → slice_index_or counts d 0 ≡ count d

pub record AddsVariable (w D : ℕ) (old new : List ℕ) : Type 0 where
  pub below : (d : ℕ) → d < w → d ≤ D → slice_index_or new d 0 ≡ slice_index_or old d 0
  pub from : (d : ℕ) → w ≤ d → d ≤ D → slice_index_or new d 0 ≡ slice_index_or old d 0 + slice_index_or new (d - w) 0
