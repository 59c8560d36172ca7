-- Rows: of each degree the slices of a polynomial by power of Y, as finite maps without Y. A map
-- alone doesn't tell its ring R, so most of these words are told it.
--     part_of R row j      the polynomial of the row's map at place j, 0 past the end
--     part_at R rows r j      that of the map in row r at place j, 0 past the ends
--     polynomial_of_row R j row      the sum of the row's maps times Y^j, Y^(j+1) and so on
--     polynomial_of_rows R rows      the sum of the rows' polynomials, each from Y^0 on
--     IsRow R K r row      the row has a slice of degree r for each power of Y from 0 to K
--     AreRows R K rows      the rows are of degrees 0, 1 and so on
--     IsRowOf K r p row      the row has the slices of p of degree r, for powers of Y from 0 to K
use Rattle.std.specs.Prelude.{◌≡◌, ℕ, suc, ◌≤◌, List, [], ◌∷◌, length, slice_index_or, EachIndex}
use Rattle.std.specs.List.{All}
use Rattle.std.specs.FinMap.{FinMap, empty}
use Rattle.ps_model.specs.Ring.{Ring}
use Rattle.ps_model.specs.Polynomial.{Polynomial}
use Rattle.ps_model.specs.Notation.{of_map, zero, sum, slice_at, raised}
use Rattle.ps_model.specs.Bounds.{IsSlice}

module _ (R : Ring) where
  abbrev pub part_of : List (FinMap R.compare ℕ) → ℕ → Polynomial R
  part_of row j = of_map (slice_index_or row j empty)

  abbrev pub part_at : List (List (FinMap R.compare ℕ)) → ℕ → ℕ → Polynomial R
  part_at rows r j = part_of (slice_index_or rows r []) j

  abbrev pub polynomial_of_row : ℕ → List (FinMap R.compare ℕ) → Polynomial R
  polynomial_of_row j [] = zero
  polynomial_of_row j (m ∷ ms) = sum (raised j (of_map m)) (polynomial_of_row (suc j) ms)

  abbrev pub polynomial_of_rows : List (List (FinMap R.compare ℕ)) → Polynomial R
  polynomial_of_rows [] = zero
  polynomial_of_rows (row ∷ rows) = sum (polynomial_of_row 0 row) (polynomial_of_rows rows)

  pub record IsRow (K r : ℕ) (row : List (FinMap R.compare ℕ)) : Type 0 where
    pub places : length row ≡ suc K
    pub slices : All (λ m. IsSlice r (of_map {R = R} m)) row

  abbrev pub AreRows : ℕ → List (List (FinMap R.compare ℕ)) → Type 0
  AreRows K rows = EachIndex rows (λ r. IsRow K r (slice_index_or rows r []))

module _ {R : Ring} where
  pub record IsRowOf (K r : ℕ) (p : Polynomial R) (row : List (FinMap R.compare ℕ)) : Type 0 where
    pub places : length row ≡ suc K
    pub slices : (j : ℕ) → j ≤ K → part_of R row j ≡ slice_at r j p
