-- What the rows are, and what their preparation is.
--     ArePowers ring xs      the part at place k is one of the ring, of degree k
--     IsPreparationOf ring rows n prep      at k = 2 and q = 6 the prepared pair, up to degree n - 1, of
--         each G that has the first n rows
use Rattle.std.specs.Prelude.{◌≡◌, ℕ, ◌<◌, List, [], length, slice_index_or}
use Rattle.ps_model.specs.Bounds.{HasNoPowerAbove}
use Rattle.ps_model.specs.Rows.{IsRowOf}
use Rattle.ps_model.specs.SeriesRing.{Poly}
use Rattle.parts.specs.PartValue.{PartValue, IsPartOf}
use Rattle.parts.specs.Series.{series, row_maps}
use Rattle.parts.specs.declared.rings.Ring.{Ring}
use Rattle.prepare.specs.PrepValue.{PrepValue, degrees_of, Prepares}

-- parts of the ring, of the degrees 0, 1 and so on
abbrev pub ArePowers : Ring → List PartValue → Type 0
ArePowers ring xs = (k : ℕ) (x : PartValue) → k < length xs
    → ((slice_index_or xs k x).degree ≡ k) × IsPartOf ring (slice_index_or xs k x)

-- the preparation of all that has the first n rows
pub record IsPreparationOf (ring : Ring) (rows : List (List PartValue)) (n : ℕ) (prep : PrepValue) : Type 0 where
  pub ring_is : prep.ring ≡ ring
  pub k_is : prep.k ≡ 2
  pub q_is : prep.q ≡ 6
  pub degrees : degrees_of prep ≡ n
  pub pair : (G : Poly (series prep.ring)) → HasNoPowerAbove 8 G
      → ((r : ℕ) → r < n → IsRowOf 8 r G (row_maps prep.ring (slice_index_or rows r []))) → Prepares prep G
