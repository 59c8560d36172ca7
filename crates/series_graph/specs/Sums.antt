-- The part of degree r of a sum, from the known parts of the nodes.
--     part_known ring known i r      the polynomial of part r of node i, 0 past the ends
--     product_known ring known r a b      the sum over s up to r of part s of node a times part r - s of node b
--     products_known ring known r of      the sum of these over the pairs; 0 of none
--     IsPartWith ring r q p      p is a part of degree r, and its polynomial is q
use Rattle.std.specs.Prelude.{◌≡◌, ℕ, ◌-◌, List, [], ◌∷◌, slice_index_or}
use Rattle.ps_model.specs.Notation.{zero, sum, product, sum_to}
use Rattle.ps_model.specs.SeriesRing.{Poly}
use Rattle.parts.specs.PartValue.{PartValue}
use Rattle.parts.specs.RowsOfParts.{part_in}
use Rattle.parts.specs.Series.{series, polynomial_in}
use Rattle.parts.specs.declared.rings.Ring.{Ring}
use Rattle.units.specs.SeriesParts.{IsPartAt}
use Rattle.series_graph.specs.Formula.{place_of}
use Rattle.series_graph.specs.declared.node.NodeId.{NodeId}

abbrev pub part_known : (ring : Ring) → List (List PartValue) → ℕ → ℕ → Poly (series ring)
part_known ring known i r = polynomial_in ring (part_in (slice_index_or known i []) r).map

abbrev pub product_known : (ring : Ring) → List (List PartValue) → ℕ → ℕ → ℕ → Poly (series ring)
product_known ring known r a b = sum_to r (λ s. product (part_known ring known a s) (part_known ring known b (r - s)))

abbrev pub products_known : (ring : Ring) → List (List PartValue) → ℕ → List (NodeId × NodeId) → Poly (series ring)
products_known ring known r [] = zero
products_known ring known r (t ∷ ts) =
    sum (product_known ring known r (place_of t.0) (place_of t.1)) (products_known ring known r ts)

abbrev pub IsPartWith : (ring : Ring) → ℕ → Poly (series ring) → PartValue → Type 0
IsPartWith ring r q p = IsPartAt ring r p × (polynomial_in ring p.map ≡ q)
