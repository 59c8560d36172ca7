-- Parts as polynomials.
--     polynomial_modulo m ws map      the polynomial of a part's map modulo m, in Y and eight variables of
--         these weights; 0 of the empty map
--     maps_modulo m ws row      the maps of a row of parts
--     series ring, polynomial_in ring map, row_maps ring row      the same of a ring's modulus and weights
--     constant_of ring p      the constant term of a part, 0 of one without terms
--     rows_maps ring rows      the maps of rows of parts
--     polynomial_of ring rows      the sum of all parts of the rows, the one at place j times Y^j;
--         0 of no row
use Rattle.std.specs.Prelude.{ℕ, List, map}
use Rattle.std.specs.FinMap.{FinMap}
use Rattle.ps_model.specs.Keys.{key_compare}
use Rattle.ps_model.specs.Notation.{of_map, constant_term}
use Rattle.ps_model.specs.Rows.{polynomial_of_rows}
use Rattle.ps_model.specs.SeriesRing.{SeriesRing, ring as ring_of, Poly, Row}
use Rattle.ps_model.specs.Job.{series_ring}
use Rattle.parts.specs.Rings.{modulus_of, eight_weights}
use Rattle.parts.specs.PartValue.{PartValue}
use Rattle.parts.specs.declared.rings.Ring.{Ring}

-- the polynomial of a part's map
unfoldable pub polynomial_modulo : (m : ℕ) (ws : List ℕ) → FinMap (key_compare 8) ℕ → Poly (series_ring m ws)
unfolding series_ring
polynomial_modulo m ws map = of_map map

-- the maps of a row of parts
unfoldable pub maps_modulo : (m : ℕ) (ws : List ℕ) → List PartValue → Row (series_ring m ws)
unfolding series_ring
maps_modulo m ws row = map (λ p. p.map) row

-- the ring of the series that a ring's parts belong to
abbrev pub series : Ring → SeriesRing
series ring = series_ring (modulus_of ring) (eight_weights ring)

abbrev pub polynomial_in : (ring : Ring) → FinMap (key_compare 8) ℕ → Poly (series ring)
polynomial_in ring map = polynomial_modulo (modulus_of ring) (eight_weights ring) map

abbrev pub row_maps : (ring : Ring) → List PartValue → Row (series ring)
row_maps ring row = maps_modulo (modulus_of ring) (eight_weights ring) row

-- the constant term of a part
abbrev pub constant_of : Ring → PartValue → ℕ
constant_of ring p = constant_term (polynomial_in ring p.map)

-- the maps of rows of parts
abbrev pub rows_maps : (ring : Ring) → List (List PartValue) → List (Row (series ring))
rows_maps ring rows = map (row_maps ring) rows

-- the polynomial that rows of parts are, put together
abbrev pub polynomial_of : (ring : Ring) → List (List PartValue) → Poly (series ring)
polynomial_of ring rows = polynomial_of_rows (ring_of (series ring)) (rows_maps ring rows)
