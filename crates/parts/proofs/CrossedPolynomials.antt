-- The formal sum that is left of a part less products of series, and its polynomial.
use Rattle.std.proofs.Common.{◌≡◌, ℕ, zero, suc, ◌+◌, ◌-◌, ◌*◌, ◌%◌, List, [], ◌∷◌, ◌++◌, refl, sym}
use Rattle.std.proofs.Common.{◌∙◌, ap, arith}
use Rattle.std.specs.FinMap.{FinMap, entries}
use Rattle.std.proofs.Math.Nat.{add-mod}
use Rattle.ps_model.specs.FiniteMaps.{collected}
use Rattle.ps_model.specs.Job.{series_ring}
use Rattle.ps_model.specs.Keys.{Key, key_compare, add_keys}
use Rattle.ps_model.specs.Notation.{scaled, difference}
use Rattle.ps_model.specs.Polynomial.{polynomial, of_map as map_polynomial, sum as sum_of}
use Rattle.ps_model.specs.Polynomial.{scaled as scaled_of, difference as difference_of, product as product_of}
use Rattle.ps_model.specs.Polynomial.{negative as negative_of, zero as zero_of, sum_between as sum_between_of}
use Rattle.ps_model.specs.Ring.{Ring as AnyRing}
use Rattle.ps_model.specs.SeriesRing.{ring as ring_of}
use Rattle.ps_model.specs.Sums.{total, multiples, products}
use Rattle.ps_model.proofs.Coefficients.{same_values, linear_form, linear_form-polynomial}
use Rattle.ps_model.proofs.OfMap.{of_map-collected}
use Rattle.ps_model.proofs.SumsBetween.{sum_between-suc}
use Rattle.ps_model.proofs.Totals.{total-append, total-multiples, total-products}
use Rattle.ps_model.proofs.Values.{linear_form-sum, linear_form-scaled}
use Rattle.ps_model.proofs.RingLaws.{mul-mod_last}
use Rattle.residue.specs.Products.{sum_below}
use Rattle.parts.specs.PartValue.{PartValue}
use Rattle.parts.specs.Rings.{modulus_of, weights_of}
use Rattle.parts.specs.RowsOfParts.{part_in}
use Rattle.parts.specs.Series.{series, polynomial_modulo, polynomial_in}
use Rattle.parts.specs.SeriesParts.{AreSeriesParts, crossed_sum}
use Rattle.parts.specs.CrossedEntries.{pieces, entries_at, crossed_entries, all_crossed, left_entries}
use Rattle.parts.specs.SeriesRows.{crossed_total, crossed_totals}
use Rattle.parts.specs.declared.rings.Ring.{Ring}
use Rattle.parts.proofs.Accumulated.{of_map-more, products-are}
use Rattle.parts.proofs.Polynomials.{modulus_is}
use Rattle.parts.proofs.SeriesSums.{IsOfDegree, crossed-total}

-- families of series of a ring
abbrev pub AreFacing : Ring → (a w : ℕ → List PartValue) → Type 0
AreFacing ring a w = (h : ℕ) → AreSeriesParts ring (a h) × AreSeriesParts ring (w h)

pub total-pieces : {K : Type 0} (g : K → ℕ) (n : ℕ) (f : ℕ → List (K × ℕ)) →
    total g (pieces n f) ≡ sum_below n (λ s. total g (f s))
total-pieces g zero f = refl
total-pieces g (suc n) f = total-append g (pieces n f) (f n) ∙ ap (λ k. k + total g (f n)) (total-pieces g n f)

module _ (ring : Ring) (r : ℕ) (g : Key 8 → ℕ) (of_degree : IsOfDegree (weights_of ring) r g) where
  crossed_value : (a w : List PartValue) → AreSeriesParts ring a → AreSeriesParts ring w →
      total g (crossed_entries r a w) ≡ crossed_total g a w
  crossed_value a w p q =
      total-pieces g (suc r) (λ s. products (add_keys 8) (entries_at a s) (entries_at w (r - s))) ∙
      (λ i. sum_below (suc r) (λ s. total-products (add_keys 8) g (entries_at a s) (entries_at w (r - s)) i)) ∙
      sym (crossed-total ring a w p q r g of_degree)

  pub left_value : (m : ℕ) (start : FinMap (key_compare 8) ℕ) (n : ℕ) (a w : ℕ → List PartValue) (factor : ℕ) →
      AreFacing ring a w → total g (left_entries m r start n a w factor) ≡
      factor * (total g (entries start) + (m - 1) * crossed_totals g n a w)
  left_value m start n a w factor h =
      total-multiples g factor (entries start ++ multiples (m - 1) (all_crossed r n a w)) ∙
      ap (λ k. factor * k) (total-append g (entries start) (multiples (m - 1) (all_crossed r n a w)) ∙
      ap (λ k. total g (entries start) + k) (total-multiples g (m - 1) (all_crossed r n a w) ∙
      ap (λ k. (m - 1) * k) (total-pieces g n (λ i. crossed_entries r (a i) (w i)) ∙
      (λ j. sum_below n (λ i. crossed_value (a i) (w i) (h i).0 (h i).1 j)))))

module _ (R : AnyRing) where
  polynomial-append : (es fs : List (R.Key × ℕ)) →
      polynomial R (es ++ fs) ≡ sum_of R (polynomial R es) (polynomial R fs)
  polynomial-append es fs = same_values R _ _ (λ f. linear_form-polynomial R f (es ++ fs) ∙
      ap (λ n. n % R.modulus) (total-append f es fs) ∙ add-mod _ _ R.modulus ∙
      sym (linear_form-sum R f _ _ ∙
      λ i. (linear_form-polynomial R f es i + linear_form-polynomial R f fs i) % R.modulus))

  polynomial-multiples : (c : ℕ) (es : List (R.Key × ℕ)) →
      polynomial R (multiples c es) ≡ scaled_of R c (polynomial R es)
  polynomial-multiples c es = same_values R _ _ (λ f. linear_form-polynomial R f (multiples c es) ∙
      ap (λ n. n % R.modulus) (total-multiples f c es) ∙ sym (linear_form-scaled R f c (polynomial R es) ∙
      ap (λ n. (c * n) % R.modulus) (linear_form-polynomial R f es) ∙ mul-mod_last c (total f es) R.modulus))

  polynomial-nil : polynomial R [] ≡ zero_of R
  unfolding zero_of
  polynomial-nil = refl

  polynomial-pieces : (n : ℕ) (f : ℕ → List (R.Key × ℕ)) →
      polynomial R (pieces n f) ≡ sum_between_of R 0 n (λ s. polynomial R (f s))
  polynomial-pieces zero f = polynomial-nil
  polynomial-pieces (suc n) f = polynomial-append (pieces n f) (f n) ∙
      ap (λ p. sum_of R p (polynomial R (f n))) (polynomial-pieces n f) ∙
      sym (sum_between-suc R 0 n (λ s. polynomial R (f s)) (omega arith))

  polynomial-less : (p : FinMap R.compare ℕ) (es : List (R.Key × ℕ)) →
      polynomial R (entries p ++ multiples (R.modulus - 1) es) ≡ difference_of R (map_polynomial R p) (polynomial R es)
  unfolding difference_of negative_of
  polynomial-less p es = sym (of_map-collected R _) ∙ of_map-more R (R.modulus - 1) p es

  -- products of two families of maps, by places that add to r
  crossed-of : (r : ℕ) (a w : ℕ → FinMap R.compare ℕ) →
      polynomial R (pieces (suc r) (λ s. products R.◌⊕◌ (entries (a s)) (entries (w (r - s))))) ≡
      sum_between_of R 0 (suc r) (λ s. product_of R (map_polynomial R (a s)) (map_polynomial R (w (r - s))))
  crossed-of r a w =
      polynomial-pieces (suc r) (λ s. products R.◌⊕◌ (entries (a s)) (entries (w (r - s)))) ∙
      (λ i. sum_between_of R 0 (suc r) (λ s. products-are R (a s) (w (r - s)) i))

  all-of : (r n : ℕ) (a w : ℕ → ℕ → FinMap R.compare ℕ) →
      polynomial R (pieces n (λ h. pieces (suc r) (λ s. products R.◌⊕◌ (entries (a h s)) (entries (w h (r - s)))))) ≡
      sum_between_of R 0 n (λ h. sum_between_of R 0 (suc r)
      (λ s. product_of R (map_polynomial R (a h s)) (map_polynomial R (w h (r - s)))))
  all-of r n a w =
      polynomial-pieces n (λ h. pieces (suc r) (λ s. products R.◌⊕◌ (entries (a h s)) (entries (w h (r - s))))) ∙
      (λ i. sum_between_of R 0 n (λ h. crossed-of r (a h) (w h) i))

  left-of : (r n : ℕ) (a w : ℕ → ℕ → FinMap R.compare ℕ) (start : FinMap R.compare ℕ) (factor : ℕ) →
      map_polynomial R (collected R.compare R.modulus (multiples factor (entries start ++ multiples (R.modulus - 1)
      (pieces n (λ h. pieces (suc r) (λ s. products R.◌⊕◌ (entries (a h s)) (entries (w h (r - s))))))))) ≡
      scaled_of R factor (difference_of R (map_polynomial R start) (sum_between_of R 0 n (λ h. sum_between_of R 0 (suc r)
      (λ s. product_of R (map_polynomial R (a h s)) (map_polynomial R (w h (r - s)))))))
  left-of r n a w start factor = of_map-collected R _ ∙ polynomial-multiples factor _ ∙
      ap (scaled_of R factor) (polynomial-less start
      (pieces n (λ h. pieces (suc r) (λ s. products R.◌⊕◌ (entries (a h s)) (entries (w h (r - s)))))) ∙
      ap (difference_of R (map_polynomial R start)) (all-of r n a w))

module _ (ring : Ring) where
  pub left-is : (r : ℕ) (start : FinMap (key_compare 8) ℕ) (n : ℕ) (a w : ℕ → List PartValue) (factor : ℕ) →
      polynomial_in ring (collected (key_compare 8) (modulus_of ring)
      (left_entries (modulus_of ring) r start n a w factor)) ≡
      scaled factor (difference (polynomial_in ring start) (crossed_sum ring r n a w))
  unfolding series_ring polynomial_modulo
  left-is r start n a w factor =
      ap (λ m. map_polynomial (ring_of (series ring))
      (collected (key_compare 8) m (left_entries m r start n a w factor)))
      (sym (modulus_is ring))
      ∙ left-of (ring_of (series ring)) r n (λ h s. (part_in (a h) s).map) (λ h s. (part_in (w h) s).map) start factor
