-- The parts of one factor by power of Y, as series, beside its rows by degree.
--     column rows i      the parts at place i of the rows
--     AreColumns ring n rows series      n series of the ring, the one at place i having the parts at place i of the rows
--     AreBegun ring n rows series      the same, but each series may have one part more
--     cut_to r s      the series s without its last part where it has more than r
--     HasNoneAtStart k rows      the parts of the row of degree 0 below place k are zero
--     HasSeries prep a w      the series of both factors: those of p below Y^k and those of u; and no
--         part of p below Y^k has a term of degree 0
--     HasNext old new e row      new has one row more of each factor, those that the recurrences give
use Rattle.std.specs.Prelude.{◌≡◌, ℕ, suc, ◌+◌, ◌-◌, ◌<◌, ◌≤◌, cond, nat_lt, List, [], ◌∷◌, ◌++◌, length, map, take}
use Rattle.std.specs.Prelude.{slice_index_or}
use Rattle.std.specs.FinMap.{empty}
use Rattle.parts.specs.PartValue.{PartValue}
use Rattle.parts.specs.RowsOfParts.{part_in}
use Rattle.parts.specs.SeriesParts.{SeriesValue, AreOver, parts_at}
use Rattle.parts.specs.declared.rings.Ring.{Ring}
use Rattle.prepare.specs.PrepValue.{PrepValue}
use Rattle.prepare.specs.Recurrence.{IsNextOfP, IsNextOfU}

-- the parts at one place of the rows
abbrev pub column : List (List PartValue) → ℕ → List PartValue
column rows i = map (λ (row : List PartValue). part_in row i) rows

-- the columns of rows
pub record AreColumns (ring : Ring) (n : ℕ) (rows : List (List PartValue)) (series : List SeriesValue) : Type 0 where
  pub count : length series ≡ n
  pub rings : AreOver ring series
  pub parts : (i : ℕ) → i < n → parts_at series i ≡ column rows i

-- each with one part more at most
pub record AreBegun (ring : Ring) (n : ℕ) (rows : List (List PartValue)) (series : List SeriesValue) : Type 0 where
  pub count : length series ≡ n
  pub rings : AreOver ring series
  pub begin : (i : ℕ) → i < n → take (length rows) (parts_at series i) ≡ column rows i
  pub few : (i : ℕ) → i < n → length (parts_at series i) ≤ length rows + 1

-- without a last part past the first r
abbrev pub cut_to : ℕ → SeriesValue → SeriesValue
cut_to r s = cond (nat_lt r (length s.parts)) (record s { parts = take (length s.parts - 1) s.parts }) s

-- the row of degree 0 has no part with a term below place k
abbrev pub HasNoneAtStart : ℕ → List (List PartValue) → Type 0
HasNoneAtStart k rows = (i : ℕ) → i < k → (part_in (slice_index_or rows 0 []) i).map ≡ empty

-- the series of a preparation
pub record HasSeries (prep : PrepValue) (a w : List SeriesValue) : Type 0 where
  pub of_p : AreColumns prep.ring prep.k prep.rows_p a
  pub of_u : AreColumns prep.ring (suc prep.q) prep.rows_u w
  pub none : HasNoneAtStart prep.k prep.rows_p

-- the rows of one degree more, by the recurrences; e is the inverse of the unit's constant term
pub record HasNext (old new : PrepValue) (e : ℕ) (row : List PartValue) : Type 0 where
  pub row_p : List PartValue
  pub row_u : List PartValue
  pub p_is : IsNextOfP old.ring old.k e old.rows_p old.rows_u row row_p
  pub u_is : IsNextOfU old.ring old.k old.q old.rows_p row_p old.rows_u row row_u
  pub new_is : new ≡ record old { rows_p = old.rows_p ++ row_p ∷ []; rows_u = old.rows_u ++ row_u ∷ [] }
