-- Rows of parts, read from a graph.
--     ArePartsOf graph slots r row      the row's parts are those of degree r of what the slots mean, of which each
--         means one polynomial up to each degree
use Rattle.std.specs.Prelude.{◌≡◌, ℕ, Some, List, length, slice_get}
use Rattle.ps_model.specs.Bounds.{ExactlyOne}
use Rattle.parts.specs.PartValue.{PartValue}
use Rattle.parts.specs.RowsOfParts.{part_in}
use Rattle.parts.specs.Series.{series}
use Rattle.series_graph.specs.Formula.{place_of}
use Rattle.series_graph.specs.GraphValue.{GraphValue, IsKnownPart}
use Rattle.series_graph.specs.Meaning.{Means}
use Rattle.series_graph.specs.declared.node.NodeId.{NodeId}

pub record ArePartsOf (graph : GraphValue) (slots : List NodeId) (r : ℕ) (row : List PartValue) : Type 0 where
  pub count : length row ≡ length slots
  pub parts : (j : ℕ) (id : NodeId) → slice_get slots j ≡ Some id
      → IsKnownPart graph.ring graph.formulas (place_of id) r (part_in row j)
  pub meanings : (j D : ℕ) (id : NodeId) → slice_get slots j ≡ Some id
      → ExactlyOne (Means (series graph.ring) D graph.formulas (place_of id))
