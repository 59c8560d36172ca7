-- Cells hold numbers at places.
--     cells_total f i xs      the sum of cell times f of its place; the first cell's place is i
--     row_total f start c ps      the same of c times a row, moved by start
--     GainsRow m start c ps old new      the cells new are the cells old with c times a row added, modulo m
use Rattle.std.specs.Prelude.{◌≡◌, ◌%◌, ℕ, suc, ◌+◌, ◌*◌, List, [], ◌∷◌}
use Rattle.parts.specs.declared.cells.Placed.{Placed}

abbrev pub cells_total : (ℕ → ℕ) → ℕ → List ℕ → ℕ
cells_total f i [] = 0
cells_total f i (x ∷ xs) = x * f i + cells_total f (suc i) xs

abbrev pub row_total : (ℕ → ℕ) → ℕ → ℕ → List Placed → ℕ
row_total f start c [] = 0
row_total f start c (p ∷ ps) = (c * p.coefficient) * f (start + p.place) + row_total f start c ps

abbrev pub GainsRow : ℕ → ℕ → ℕ → List Placed → List ℕ → List ℕ → Type 0
GainsRow m start c ps old new = (f : ℕ → ℕ) → cells_total f 0 new % m
    ≡ (cells_total f 0 old + row_total f start c ps) % m
