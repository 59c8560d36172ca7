-- What the calls of a preparation do.
--     IsLowest k row power      below k the least power of Y whose part isn't zero
--     HasNoneBelow k row      below k each part is zero
--     IsWithoutInverse ring k row gcd      below k each part is zero, and gcd, which is above 1, is the
--         greatest common divisor of the modulus and the constant term at Y^k
--     IsPowerOfY ring k row      the row of degree 0 of Y^k
--     Begins ring k row prep      of degree 0 alone, and the prepared pair there of each G whose
--         row of degree 0 it is
--     Adds row old new      the old rows stay, each factor has one more, and for each G of whose
--         next degree the row is, the prepared pair becomes that of the next degree
use Rattle.std.specs.Prelude.{◌≡◌, ◌≢◌, ℕ, ◌+◌, ◌<◌, List, [], ◌∷◌, ◌++◌, length}
use Rattle.std.specs.FinMap.{empty}
use Rattle.std.specs.Int.{IsGcd}
use Rattle.ps_model.specs.Bounds.{HasNoPowerAbove}
use Rattle.ps_model.specs.Notation.{one}
use Rattle.ps_model.specs.Rows.{IsRowOf}
use Rattle.ps_model.specs.SeriesRing.{Poly}
use Rattle.parts.specs.Rings.{modulus_of}
use Rattle.parts.specs.PartValue.{PartValue}
use Rattle.parts.specs.declared.rings.Ring.{Ring}
use Rattle.parts.specs.Series.{constant_of, series, polynomial_in, row_maps}
use Rattle.parts.specs.RowsOfParts.{part_in, IsRowOfParts, AreRowsOfParts}
use Rattle.prepare.specs.PrepValue.{PrepValue, degrees_of, Prepares}

-- no part below place k has a term
abbrev pub HasNoneBelow : ℕ → List PartValue → Type 0
HasNoneBelow k row = (i : ℕ) → i < k → (part_in row i).map ≡ empty

-- the least place below k of a part with a term
pub record IsLowest (k : ℕ) (row : List PartValue) (power : ℕ) : Type 0 where
  pub below : power < k
  pub some : (part_in row power).map ≢ empty
  pub first : HasNoneBelow power row

-- the constant term at Y^k has no inverse
pub record IsWithoutInverse (ring : Ring) (k : ℕ) (row : List PartValue) (gcd : ℕ) : Type 0 where
  pub none : HasNoneBelow k row
  pub above : 1 < gcd
  pub divisor : IsGcd (constant_of ring (part_in row k)) (modulus_of ring) gcd

-- the row of degree 0 of Y^k
pub record IsPowerOfY (ring : Ring) (k : ℕ) (row : List PartValue) : Type 0 where
  pub row_is : IsRowOfParts ring k 0 row
  pub none : HasNoneBelow k row
  pub top : polynomial_in ring (part_in row k).map ≡ one

-- the preparation of a row of degree 0
pub record Begins (ring : Ring) (k : ℕ) (row : List PartValue) (prep : PrepValue) : Type 0 where
  pub ring_is : prep.ring ≡ ring
  pub k_is : prep.k ≡ k
  pub q_is : prep.k + prep.q + 1 ≡ length row
  pub degrees : degrees_of prep ≡ 1
  pub same : length prep.rows_u ≡ 1
  pub p_rows : AreRowsOfParts prep.ring prep.k prep.rows_p
  pub u_rows : AreRowsOfParts prep.ring prep.q prep.rows_u
  pub pair : (G : Poly (series prep.ring)) → HasNoPowerAbove (prep.k + prep.q) G
      → IsRowOf (prep.k + prep.q) 0 G (row_maps prep.ring row) → Prepares prep G

-- the preparation with one degree more
pub record Adds (row : List PartValue) (old new : PrepValue) : Type 0 where
  pub row_p : List PartValue
  pub row_u : List PartValue
  pub p_is : IsRowOfParts old.ring old.k (degrees_of old) row_p
  pub u_is : IsRowOfParts old.ring old.q (degrees_of old) row_u
  pub new_is : new ≡ record old { rows_p = old.rows_p ++ row_p ∷ []; rows_u = old.rows_u ++ row_u ∷ [] }
  pub pair : (G : Poly (series old.ring)) → HasNoPowerAbove (old.k + old.q) G
      → IsRowOf (old.k + old.q) (degrees_of old) G (row_maps old.ring row) → Prepares old G
      → Prepares (record old { rows_p = old.rows_p ++ row_p ∷ []; rows_u = old.rows_u ++ row_u ∷ [] }) G
