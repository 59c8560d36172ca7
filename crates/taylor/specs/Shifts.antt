-- Shifts of rows of parts.
--     AreRowParts ring row      parts of the ring, at least one, all of one degree r up to 4095: a row for
--         the powers of Y from 0 to K
--     shifted_up_to ring c row i n      the sum over j from i to n - 1 of C(j, i) * c^(j - i) times the
--         part at place j
--     IsPartOfShift ring c row i p      p is the part at place i of the shifted row
--     IsShiftedRow ring c K r row out      row and out are rows of slices of degree r, and the polynomial
--         of out is that of row with Y + c in place of Y
use Rattle.std.specs.Prelude.{◌≡◌, ℕ, ◌-◌, ◌*◌, ◌^◌, ◌≤◌, List, length}
use Rattle.ps_model.specs.SeriesRing.{ring as ring_of, Poly}
use Rattle.ps_model.specs.Notation.{scaled, sum_between, shifted}
use Rattle.ps_model.specs.Rows.{IsRow, polynomial_of_row}
use Rattle.ps_model.specs.Shift.{binomial}
use Rattle.parts.specs.declared.rings.Ring.{Ring}
use Rattle.parts.specs.PartValue.{PartValue, IsPartOf}
use Rattle.parts.specs.RowsOfParts.{part_in, IsRowOfParts}
use Rattle.parts.specs.Series.{series, polynomial_in, row_maps}

pub record AreRowParts (ring : Ring) (row : List PartValue) : Type 0 where
  pub K : ℕ
  pub r : ℕ
  pub low : r ≤ 4095
  pub row_is : IsRowOfParts ring K r row

abbrev pub shifted_up_to : (ring : Ring) → ℕ → List PartValue → ℕ → ℕ → Poly (series ring)
shifted_up_to ring c row i n =
    sum_between i n (λ j. scaled (binomial j i * c ^ (j - i)) (polynomial_in ring (part_in row j).map))

pub record IsPartOfShift (ring : Ring) (c : ℕ) (row : List PartValue) (i : ℕ) (p : PartValue) : Type 0 where
  pub degree : p.degree ≡ (part_in row i).degree
  pub part : IsPartOf ring p
  pub polynomial : polynomial_in ring p.map ≡ shifted_up_to ring c row i (length row)

pub record IsShiftedRow (ring : Ring) (c K r : ℕ) (row out : List PartValue) : Type 0 where
  pub row_is : IsRow (ring_of (series ring)) K r (row_maps ring row)
  pub out_is : IsRow (ring_of (series ring)) K r (row_maps ring out)
  pub polynomial : polynomial_of_row (ring_of (series ring)) 0 (row_maps ring out)
      ≡ shifted c (polynomial_of_row (ring_of (series ring)) 0 (row_maps ring row))
