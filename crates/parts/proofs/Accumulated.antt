-- What is added to an accumulator, as polynomials.
use Rattle.std.proofs.Common.{◌≡◌, ℕ, ◌+◌, ◌-◌, ◌*◌, ◌%◌, List, ◌++◌, true, false, refl, sym, ◌∙◌, ap}
use Rattle.std.specs.FinMap.{FinMap, entries}
use Rattle.std.proofs.Math.Nat.{add-mod, mod-mod}
use Rattle.ps_model.specs.FiniteMaps.{collected, scale_map}
use Rattle.ps_model.specs.Job.{series_ring}
use Rattle.ps_model.specs.Keys.{key_compare, add_keys}
use Rattle.ps_model.specs.Polynomial.{polynomial, of_map as map_polynomial, sum as sum_of, scaled as scaled_of}
use Rattle.ps_model.specs.Polynomial.{product as product_of, difference as difference_of, negative as negative_of}
use Rattle.ps_model.specs.Notation.{sum, scaled, product, difference, negative}
use Rattle.ps_model.specs.Ring.{Ring as AnyRing}
use Rattle.ps_model.specs.SeriesRing.{ring as ring_of}
use Rattle.ps_model.specs.Sums.{total, multiples, products}
use Rattle.ps_model.proofs.Coefficients.{same_values, linear_form-polynomial, times-mod}
use Rattle.ps_model.proofs.Images.{scaled_one}
use Rattle.ps_model.proofs.OfMap.{linear_form-of_map, of_map-collected, of_map-scale, of_map-product}
use Rattle.ps_model.proofs.Totals.{total-append, total-multiples}
use Rattle.ps_model.proofs.Values.{linear_form-sum, linear_form-scaled}
use Rattle.parts.specs.AccumulatorValue.{with_product, with_multiple}
use Rattle.parts.specs.Rings.{modulus_of}
use Rattle.parts.specs.Terms.{sign}
use Rattle.parts.specs.declared.rings.Ring.{Ring}
use Rattle.parts.specs.Series.{polynomial_modulo, series, polynomial_in}
use Rattle.parts.proofs.Polynomials.{modulus_is}

module _ (R : AnyRing) where
  -- a map and a multiple of a formal sum
  pub of_map-more : (c : ℕ) (p : FinMap R.compare ℕ) (es : List (R.Key × ℕ))
      → map_polynomial R (collected R.compare R.modulus (entries p ++ multiples c es))
      ≡ sum_of R (map_polynomial R p) (scaled_of R c (polynomial R es))
  of_map-more c p es = of_map-collected R _
      ∙ same_values R _ _ (λ f. linear_form-polynomial R f (entries p ++ multiples c es)
      ∙ ap (λ n. n % R.modulus) (total-append f (entries p) (multiples c es)) ∙ add-mod _ _ R.modulus
      ∙ sym (linear_form-sum R f _ _ ∙ λ i. (linear_form-of_map R f p i + (linear_form-scaled R f c (polynomial R es)
      ∙ ap (λ n. (c * n) % R.modulus) (linear_form-polynomial R f es)
      ∙ sym (ap (λ n. n % R.modulus) (total-multiples f c es)
      ∙ times-mod R.modulus c c (total f es) (total f es % R.modulus) refl (sym (mod-mod _ _)))) i) % R.modulus))

  pub products-are : (a b : FinMap R.compare ℕ) → polynomial R (products R.◌⊕◌ (entries a) (entries b))
      ≡ product_of R (map_polynomial R a) (map_polynomial R b)
  products-are a b = sym (of_map-collected R _) ∙ of_map-product R a b

module _ (ring : Ring) where
  -- a multiple was added
  pub with_multiple-is : (c : ℕ) (p a : FinMap (key_compare 8) ℕ)
      → polynomial_in ring (with_multiple (modulus_of ring) c p a)
      ≡ sum (polynomial_in ring p) (scaled c (polynomial_in ring a))
  unfolding series_ring polynomial_modulo map_polynomial
  with_multiple-is c p a =
      ap (λ m. map_polynomial (ring_of (series ring))
      (collected (key_compare 8) m (entries p ++ multiples c (entries a))))
      (sym (modulus_is ring)) ∙ of_map-more (ring_of (series ring)) c p (entries a)

  -- a multiple
  pub scaled-is : (c : ℕ) (a : FinMap (key_compare 8) ℕ)
      → polynomial_in ring (scale_map (key_compare 8) (modulus_of ring) c a) ≡ scaled c (polynomial_in ring a)
  unfolding series_ring polynomial_modulo
  scaled-is c a = ap (λ m. map_polynomial (ring_of (series ring)) (scale_map (key_compare 8) m c a))
      (sym (modulus_is ring)) ∙ of_map-scale (ring_of (series ring)) c a

  -- a product was subtracted
  pub with_product-minus : (p a b : FinMap (key_compare 8) ℕ)
      → polynomial_in ring (with_product (modulus_of ring) true p a b)
      ≡ sum (polynomial_in ring p) (negative (product (polynomial_in ring a) (polynomial_in ring b)))
  unfolding series_ring polynomial_modulo negative_of
  with_product-minus p a b =
      ap (λ m. map_polynomial (ring_of (series ring)) (collected (key_compare 8) m
      (entries p ++ multiples (sign m true) (products (add_keys 8) (entries a) (entries b))))) (sym (modulus_is ring))
      ∙ of_map-more (ring_of (series ring)) ((series ring).modulus - 1) p
      (products (add_keys 8) (entries a) (entries b))
      ∙ ap (λ t. sum_of (ring_of (series ring)) (map_polynomial (ring_of (series ring)) p)
      (scaled_of (ring_of (series ring)) ((series ring).modulus - 1) t)) (products-are (ring_of (series ring)) a b)

  -- the same as a difference
  pub with_product-less : (p a b : FinMap (key_compare 8) ℕ)
      → polynomial_in ring (with_product (modulus_of ring) true p a b)
      ≡ difference (polynomial_in ring p) (product (polynomial_in ring a) (polynomial_in ring b))
  unfolding difference_of
  with_product-less p a b = with_product-minus p a b

  -- a product was added
  pub with_product-plus : (p a b : FinMap (key_compare 8) ℕ)
      → polynomial_in ring (with_product (modulus_of ring) false p a b)
      ≡ sum (polynomial_in ring p) (product (polynomial_in ring a) (polynomial_in ring b))
  unfolding series_ring polynomial_modulo
  with_product-plus p a b =
      ap (λ m. map_polynomial (ring_of (series ring)) (collected (key_compare 8) m
      (entries p ++ multiples 1 (products (add_keys 8) (entries a) (entries b))))) (sym (modulus_is ring))
      ∙ of_map-more (ring_of (series ring)) 1 p (products (add_keys 8) (entries a) (entries b))
      ∙ ap (sum_of (ring_of (series ring)) (map_polynomial (ring_of (series ring)) p))
      (scaled_one (ring_of (series ring)) _ ∙ products-are (ring_of (series ring)) a b)
