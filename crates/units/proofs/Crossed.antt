-- The products of the parts of two series whose degrees add up to r.
use Rattle.std.proofs.Common.{◌≡◌, ℕ, ◌-◌, ◌<◌, ◌≤◌, inr, List, sym, ◌∙◌, ap, arith}
use Rattle.std.specs.FinMap.{empty}
use Rattle.ps_model.specs.Notation.{sum, product, homogeneous_part, sum_to, sum_between}
use Rattle.ps_model.specs.SeriesRing.{ring as ring_of, Poly}
use Rattle.ps_model.proofs.RingLaws.{sum-zero, product-comm}
use Rattle.ps_model.proofs.SumsBetween.{sum_between-zero, sum_between-split}
use Rattle.ps_model.proofs.Truncations.{homogeneous_part-product, sum_to-same}
use Rattle.parts.specs.PartValue.{PartValue}
use Rattle.parts.specs.RowsOfParts.{part_in}
use Rattle.parts.specs.Series.{series, polynomial_in}
use Rattle.parts.specs.declared.rings.Ring.{Ring}
use Rattle.units.specs.SeriesParts.{AreSeriesParts, series_of}
use Rattle.units.proofs.Added.{no_product}
use Rattle.units.proofs.Parts.{series_part}

-- the product of f(s) and g(r-s)
abbrev pub crossed : (ring : Ring) (f g : List PartValue) → ℕ → ℕ → Poly (series ring)
crossed ring f g r s = product (polynomial_in ring (part_in f s).map) (polynomial_in ring (part_in g (r - s)).map)

module _ (ring : Ring) (f g : List PartValue) (r : ℕ) where
  -- nothing is added by the products with zero parts of g
  pub crossed-zeros : (m n : ℕ) → m ≤ n → ((i : ℕ) → m ≤ i → i < n → (part_in g (r - i)).map ≡ empty)
      → sum_between 0 m (crossed ring f g r) ≡ sum_between 0 n (crossed ring f g r)
  crossed-zeros m n le zeros = sym (sum_between-split (ring_of (series ring)) 0 m n (crossed ring f g r) (omega arith) le
      ∙ ap (sum (sum_between 0 m (crossed ring f g r)))
      (sum_between-zero (ring_of (series ring)) m n (crossed ring f g r)
      (λ i low lt. no_product ring (part_in f i) (part_in g (r - i)) (inr (zeros i low lt))))
      ∙ sum-zero (ring_of (series ring)) _)

  -- their sum is the part of degree r of the product
  crossed-part : AreSeriesParts ring f → AreSeriesParts ring g
      → sum_to r (crossed ring f g r) ≡ homogeneous_part r (product (series_of ring f) (series_of ring g))
  crossed-part f_are g_are = sym (homogeneous_part-product (ring_of (series ring)) (ring_of (series ring)).degree
      (ring_of (series ring)).degree_adds r (series_of ring f) (series_of ring g)
      ∙ sum_to-same (ring_of (series ring)) r _ (crossed ring f g r)
      (λ s le i. product (series_part ring f f_are s i) (series_part ring g g_are (r - s) i)))

-- so it is the same with the factors changed
pub crossed-swapped : (ring : Ring) (f g : List PartValue) (r : ℕ) → AreSeriesParts ring f → AreSeriesParts ring g
    → sum_to r (crossed ring g f r) ≡ sum_to r (crossed ring f g r)
crossed-swapped ring f g r f_are g_are = crossed-part ring g f r g_are f_are
    ∙ ap (homogeneous_part r) (product-comm (ring_of (series ring)) (series_of ring g) (series_of ring f))
    ∙ sym (crossed-part ring f g r f_are g_are)
