-- Parts as polynomials.
use Rattle.std.proofs.Common.{◌≡◌, ℕ, zero, suc, ◌%◌, List, [], ◌∷◌, get_or, refl, sym, ◌∙◌, ap, arith}
use Rattle.std.specs.FinMap.{empty}
use Rattle.ps_model.specs.FiniteMaps.{value_at}
use Rattle.ps_model.specs.Job.{series_ring}
use Rattle.ps_model.specs.Keys.{key_compare, y_key}
use Rattle.ps_model.specs.Notation.{zero as nought}
use Rattle.ps_model.specs.Rows.{part_of, part_at}
use Rattle.ps_model.specs.SeriesRing.{ring as ring_of}
use Rattle.ps_model.proofs.OfMap.{coefficient-of_map, of_map-empty}
use Rattle.parts.specs.PartValue.{PartValue}
use Rattle.parts.specs.Rings.{modulus_of}
use Rattle.parts.specs.declared.rings.Ring.{Ring}
use Rattle.parts.specs.RowsOfParts.{part_in}
use Rattle.parts.specs.Series.{constant_of, polynomial_modulo, maps_modulo, series, polynomial_in, row_maps, rows_maps}

pub modulus_is : (ring : Ring) → (series ring).modulus ≡ modulus_of ring
unfolding series_ring
modulus_is ring = let two = ring.modulus.low in omega arith

pub constant_is : (ring : Ring) (p : PartValue) → constant_of ring p
    ≡ value_at (key_compare 8) p.map (y_key 8 0) % modulus_of ring
unfolding series_ring polynomial_modulo
constant_is ring p = coefficient-of_map (ring_of (series ring)) p.map (y_key 8 0)
    ∙ ap (λ n. value_at (key_compare 8) p.map (y_key 8 0) % n) (modulus_is ring)

pub polynomial_in-empty : (ring : Ring) → polynomial_in ring empty ≡ nought
unfolding series_ring polynomial_modulo
polynomial_in-empty ring = of_map-empty (ring_of (series ring))

pub part_of-row : (ring : Ring) (row : List PartValue) (j : ℕ) → part_of (ring_of (series ring)) (row_maps ring row) j
    ≡ polynomial_in ring (part_in row j).map
unfolding series_ring polynomial_modulo maps_modulo
part_of-row ring [] j = refl
part_of-row ring (p ∷ row) zero = refl
part_of-row ring (p ∷ row) (suc j) = part_of-row ring row j

pub part_at-rows : (ring : Ring) (rows : List (List PartValue)) (s j : ℕ)
    → part_at (ring_of (series ring)) (rows_maps ring rows) s j ≡ polynomial_in ring (part_in (get_or rows s []) j).map
part_at-rows ring [] s j = none
  where
    none : part_of (ring_of (series ring)) [] j ≡ polynomial_in ring (part_in [] j).map
    none = of_map-empty (ring_of (series ring)) ∙ sym (polynomial_in-empty ring)
part_at-rows ring (row ∷ rows) zero j = part_of-row ring row j
part_at-rows ring (row ∷ rows) (suc s) j = part_at-rows ring rows s j
