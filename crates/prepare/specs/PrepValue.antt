-- What contracts see of a preparation: its ring, k and q, and the rows of both factors.
--     degrees_of prep      how many degrees it has, from 0 on
--     Prepares prep G      the rows, put together, are the prepared pair of G up to its last degree
--     IsPrep prep inverse      the rows of both factors are rows of parts, as many of one as of the
--         other and one at least, and the inverse is that of the unit's constant term
use Rattle.std.specs.Prelude.{◌≡◌, ℕ, ◌+◌, ◌-◌, ◌*◌, ◌%◌, ◌<◌, ◌≤◌, List, [], length, slice_index_or}
use Rattle.std.specs.Prelude.{refl}
use Rattle.std.specs.Coded.{Coded, code_by, coded×, coded_ℕ, coded_list}
use Rattle.ps_model.specs.Prepared.{IsPrepared}
use Rattle.ps_model.specs.SeriesRing.{Poly}
use Rattle.parts.specs.Rings.{modulus_of}
use Rattle.parts.specs.PartValue.{PartValue, part_code}
use Rattle.parts.specs.contracts.rings.Ring.{the_row}
use Rattle.parts.specs.declared.rings.Ring.{Ring}
use Rattle.parts.specs.Series.{series, polynomial_of, constant_of}
use Rattle.parts.specs.RowsOfParts.{part_in, AreRowsOfParts}

pub record PrepValue : Type 0 where
  pub ring : Ring
  pub k : ℕ
  pub q : ℕ
  pub rows_p : List (List PartValue)
  pub rows_u : List (List PartValue)

abbrev pub prep_code : Coded PrepValue
prep_code =
    code_by (Ring × (ℕ × (ℕ × (List (List PartValue) × List (List PartValue)))))
    (coded× the_row.coded (coded× coded_ℕ (coded× coded_ℕ
    (coded× (coded_list (coded_list part_code)) (coded_list (coded_list part_code))))))
    (λ s. (s.ring, (s.k, (s.q, (s.rows_p, s.rows_u)))))
    (λ t. record { ring = t.0; k = t.1.0; q = t.1.1.0; rows_p = t.1.1.1.0; rows_u = t.1.1.1.1 }) (λ _. refl)

-- how many degrees are there
abbrev pub degrees_of : PrepValue → ℕ
degrees_of prep = length prep.rows_p

-- the rows are the prepared pair of G
abbrev pub Prepares : (prep : PrepValue) → Poly (series prep.ring) → Type 0
Prepares prep G = IsPrepared G prep.k prep.q (degrees_of prep - 1) (polynomial_of prep.ring prep.rows_p)
    (polynomial_of prep.ring prep.rows_u)

-- what is true of every preparation
pub record IsPrep (prep : PrepValue) (inverse : ℕ) : Type 0 where
  pub some : 1 ≤ prep.k
  pub few : prep.k + prep.q ≤ 32
  pub begun : 1 ≤ degrees_of prep
  pub permitted : degrees_of prep ≤ 4096
  pub same : length prep.rows_u ≡ degrees_of prep
  pub p_rows : AreRowsOfParts prep.ring prep.k prep.rows_p
  pub u_rows : AreRowsOfParts prep.ring prep.q prep.rows_u
  pub residue : inverse < modulus_of prep.ring
  pub inverts : (constant_of prep.ring (part_in (slice_index_or prep.rows_u 0 []) 0) * inverse)
      % modulus_of prep.ring ≡ 1
