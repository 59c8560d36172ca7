-- What contracts see of a series: its ring, and its parts of the degrees from 0 on.
--     SeriesValue      a ring and parts
--     with_part s p      the series with one part more
--     AreSeriesParts ring parts      parts of the ring, the one at place s of degree s
--     AreOver ring series      series of the ring
--     parts_at series h      the parts of the series at place h; none past the end
--     facing_parts ring r a w s      the product of the parts a_s and w_(r-s)
--     crossed_part ring r a w      the part of degree r of the product of two series; a part past the end is 0
--     crossed_sum ring r n a w      the sum of these for the n first of two families of series
--     crossed_parts ring r a w l      the part of degree r of what belongs to Y^l in the product of two polynomials in Y
--         whose coefficients are series: the sum of a_h * w_(l-h); 0 of no series
--     SubtractsFrom old new p      the sum new is the sum old less p
--     IsLessCrossed ring start a w l factor p      p is factor times what start less that part is, of the degree of start
use Rattle.std.specs.Prelude.{◌≡◌, ℕ, suc, ◌+◌, ◌-◌, ◌<◌, List, [], ◌∷◌, ◌++◌, length, map, slice_index_or, refl}
use Rattle.std.specs.List.{All}
use Rattle.std.specs.Coded.{Coded, code_by, coded×, coded_list}
use Rattle.ps_model.specs.Notation.{scaled, difference, product, sum_between}
use Rattle.ps_model.specs.SeriesRing.{Poly}
use Rattle.parts.specs.contracts.rings.Ring.{the_row}
use Rattle.parts.specs.declared.rings.Ring.{Ring}
use Rattle.parts.specs.AccumulatorValue.{AccumulatorValue}
use Rattle.parts.specs.PartValue.{PartValue, part_code, IsPartOf}
use Rattle.parts.specs.RowsOfParts.{part_in}
use Rattle.parts.specs.Series.{series, polynomial_in}

pub record SeriesValue : Type 0 where
  pub ring : Ring
  pub parts : List PartValue

abbrev pub series_code : Coded SeriesValue
series_code =
    code_by (Ring × List PartValue) (coded× the_row.coded (coded_list part_code)) (λ s. (s.ring, s.parts))
    (λ t. record { ring = t.0; parts = t.1 }) (λ _. refl)

-- the series with one part more
abbrev pub with_part : SeriesValue → PartValue → SeriesValue
with_part s p = record s { parts = s.parts ++ p ∷ [] }

-- the part at place s is one of degree s
abbrev pub AreSeriesParts : Ring → List PartValue → Type 0
AreSeriesParts ring parts =
    (s : ℕ) → s < length parts → ((part_in parts s).degree ≡ s) × IsPartOf ring (part_in parts s)

-- what the part s of one series gives with the part of the other that faces it
abbrev pub facing_parts : (ring : Ring) → ℕ → (a w : List PartValue) → ℕ → Poly (series ring)
facing_parts ring r a w s =
    product (polynomial_in ring (part_in a s).map) (polynomial_in ring (part_in w (r - s)).map)

-- the part of degree r of a product
abbrev pub crossed_part : (ring : Ring) → ℕ → (a w : List PartValue) → Poly (series ring)
crossed_part ring r a w = sum_between 0 (suc r) (facing_parts ring r a w)

-- the sum of the parts of degree r of products
abbrev pub crossed_sum : (ring : Ring) → ℕ → ℕ → (a w : ℕ → List PartValue) → Poly (series ring)
crossed_sum ring r n a w = sum_between 0 n (λ h. crossed_part ring r (a h) (w h))

-- series of a ring
abbrev pub AreOver : Ring → List SeriesValue → Type 0
AreOver ring series = All (λ s. s.ring ≡ ring) series

-- the parts of the series at a place
abbrev pub parts_at : List SeriesValue → ℕ → List PartValue
parts_at series h = slice_index_or (map (λ (s : SeriesValue). s.parts) series) h []

-- the part of degree r of what belongs to one power of Y
abbrev pub crossed_parts : (ring : Ring) → ℕ → (a w : List SeriesValue) → ℕ → Poly (series ring)
crossed_parts ring r a w l = crossed_sum ring r (length a) (parts_at a) (λ h. parts_at w (l - h))

-- the sum less a polynomial
pub record SubtractsFrom (old new : AccumulatorValue) (p : Poly (series old.ring)) : Type 0 where
  pub ring_is : new.ring ≡ old.ring
  pub degree_is : new.degree ≡ old.degree
  pub sum_is : polynomial_in old.ring new.map ≡ difference (polynomial_in old.ring old.map) p

-- factor times what is left of start
pub record IsLessCrossed (ring : Ring) (start : PartValue) (a w : List SeriesValue) (l factor : ℕ) (p : PartValue)
    : Type 0 where
  pub degree : p.degree ≡ start.degree
  pub part : IsPartOf ring p
  pub value : polynomial_in ring p.map
      ≡ scaled factor (difference (polynomial_in ring start.map) (crossed_parts ring start.degree a w l))
