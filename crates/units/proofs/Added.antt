-- What is added to an accumulator, and what isn't: nothing is added of a zero part.
use Rattle.std.proofs.Common.{◌≡◌, ℕ, ◌-◌, ◌⊎◌, inl, inr, true, false, refl, sym, ◌∙◌, ap}
use Rattle.std.specs.FinMap.{empty}
use Rattle.ps_model.specs.Polynomial.{scaled as scaled_of, negative as negative_of}
use Rattle.ps_model.specs.Notation.{zero as nought, sum, scaled, product, negative}
use Rattle.ps_model.specs.SeriesRing.{ring as ring_of, Poly}
use Rattle.ps_model.proofs.RingLaws.{sum-zero, zero-product, product-zero}
use Rattle.ps_model.proofs.SlicesShifted.{scaled-nothing}
use Rattle.parts.specs.AccumulatorValue.{AccumulatorValue, after_product, after_multiple}
use Rattle.parts.specs.PartValue.{PartValue}
use Rattle.parts.specs.declared.rings.Ring.{Ring}
use Rattle.parts.specs.Series.{series, polynomial_in}
use Rattle.parts.proofs.Accumulated.{with_multiple-is, with_product-minus, with_product-plus}
use Rattle.parts.proofs.Polynomials.{polynomial_in-empty}
use Rattle.units.specs.SeriesParts.{Changes}

module _ (ring : Ring) where
  -- nothing
  pub changes-nothing : (acc : AccumulatorValue) (p : Poly (series ring)) → p ≡ nought → Changes ring acc acc p
  changes-nothing acc p is = record {
    ring_is = refl;
    degree_is = refl;
    sum_is = sym (ap (sum (polynomial_in ring acc.map)) is
        ∙ sum-zero (ring_of (series ring)) (polynomial_in ring acc.map));
  }

  -- a product with a zero part
  pub no_product : (x y : PartValue) → (x.map ≡ empty) ⊎ (y.map ≡ empty)
      → product (polynomial_in ring x.map) (polynomial_in ring y.map) ≡ nought
  no_product x y (inl is) = ap (λ t. product t (polynomial_in ring y.map))
      (ap (polynomial_in ring) is ∙ polynomial_in-empty ring) ∙ zero-product (ring_of (series ring)) _
  no_product x y (inr is) = ap (product (polynomial_in ring x.map))
      (ap (polynomial_in ring) is ∙ polynomial_in-empty ring) ∙ product-zero (ring_of (series ring)) _

  -- the negative of 0
  pub no_negative : (p : Poly (series ring)) → p ≡ nought → negative p ≡ nought
  unfolding negative_of
  no_negative p is = ap (scaled_of (ring_of (series ring)) ((series ring).modulus - 1)) is
      ∙ scaled-nothing (ring_of (series ring)) ((series ring).modulus - 1)

  -- a multiple of a zero part
  pub no_multiple : (c : ℕ) (x : PartValue) → x.map ≡ empty → scaled c (polynomial_in ring x.map) ≡ nought
  no_multiple c x is = ap (scaled c) (ap (polynomial_in ring) is ∙ polynomial_in-empty ring)
      ∙ scaled-nothing (ring_of (series ring)) c

-- a multiple
pub changes-multiple : (acc new : AccumulatorValue) (c : ℕ) (x : PartValue) → new ≡ after_multiple acc c x
    → Changes acc.ring acc new (scaled c (polynomial_in acc.ring x.map))
changes-multiple acc new c x is = record {
  ring_is = ap (λ (t : AccumulatorValue). t.ring) is;
  degree_is = ap (λ (t : AccumulatorValue). t.degree) is;
  sum_is = ap (λ (t : AccumulatorValue). polynomial_in acc.ring t.map) is
      ∙ with_multiple-is acc.ring c acc.map x.map;
}

-- a product that is subtracted
pub changes-minus : (acc new : AccumulatorValue) (x y : PartValue) → new ≡ after_product acc true x y
    → Changes acc.ring acc new (negative (product (polynomial_in acc.ring x.map) (polynomial_in acc.ring y.map)))
changes-minus acc new x y is = record {
  ring_is = ap (λ (t : AccumulatorValue). t.ring) is;
  degree_is = ap (λ (t : AccumulatorValue). t.degree) is;
  sum_is = ap (λ (t : AccumulatorValue). polynomial_in acc.ring t.map) is
      ∙ with_product-minus acc.ring acc.map x.map y.map;
}

-- a product
pub changes-plus : (acc new : AccumulatorValue) (x y : PartValue) → new ≡ after_product acc false x y
    → Changes acc.ring acc new (product (polynomial_in acc.ring x.map) (polynomial_in acc.ring y.map))
changes-plus acc new x y is = record {
  ring_is = ap (λ (t : AccumulatorValue). t.ring) is;
  degree_is = ap (λ (t : AccumulatorValue). t.degree) is;
  sum_is = ap (λ (t : AccumulatorValue). polynomial_in acc.ring t.map) is
      ∙ with_product-plus acc.ring acc.map x.map y.map;
}
