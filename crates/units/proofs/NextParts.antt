-- The next part of a quotient, by its formula.
use Rattle.std.proofs.Common.{◌≡◌, ℕ, suc, ◌+◌, ◌-◌, ◌<◌, ◌≤◌, inl, inr, List, [], ◌∷◌, ◌++◌, length}
use Rattle.std.proofs.Common.{sym, ◌∙◌, ap, subst, arith, add-one}
use Rattle.std.specs.FinMap.{empty}
use Rattle.std.proofs.lemmas.Bool.{cases_lt}
use Rattle.std.proofs.lemmas.List.{get_or_append_left, length_push}
use Rattle.std.proofs.Math.Seq.{get_or-append_seam}
use Rattle.ps_model.specs.Notation.{sum, scaled, product, negative, difference}
use Rattle.ps_model.specs.Notation.{homogeneous_part, sum_between, monomial}
use Rattle.ps_model.specs.Polynomial.{Polynomial, difference as difference_of, sum as sum_of, negative as negative_of}
use Rattle.ps_model.specs.Polynomial.{sum_between as between, zero as zero_of}
use Rattle.ps_model.specs.Ring.{Ring as AnyRing}
use Rattle.ps_model.specs.SeriesRing.{ring as ring_of, Poly}
use Rattle.ps_model.proofs.Recurrences.{product-constant}
use Rattle.ps_model.proofs.RingLaws.{sum-comm, sum-assoc, sum-zero, zero-sum, negative-sum, scaled-sum}
use Rattle.ps_model.proofs.SlicesShifted.{scaled-nothing}
use Rattle.ps_model.proofs.SumsBetween.{sum_between-suc, sum_between-same, sum_to-between}
use Rattle.ps_model.proofs.Truncations.{homogeneous_part-product, homogeneous_part-truncated, same_truncation}
use Rattle.ps_model.proofs.Truncations.{sum_to-same}
use Rattle.parts.specs.AccumulatorValue.{AccumulatorValue}
use Rattle.parts.specs.PartValue.{PartValue, IsPartOf}
use Rattle.parts.specs.RowsOfParts.{nothing, part_in}
use Rattle.parts.specs.Series.{series, polynomial_in, constant_of}
use Rattle.parts.specs.declared.rings.Ring.{Ring}
use Rattle.parts.proofs.Polynomials.{polynomial_in-empty}
use Rattle.units.specs.SeriesParts.{IsPartAt, AreSeriesParts, series_of, AreQuotientParts, Changes}
use Rattle.units.proofs.Crossed.{crossed, crossed-zeros}
use Rattle.units.proofs.Parts.{series_part, series_within, parts-more}
use Rattle.units.proofs.Constants.{constant_part}

module _ (R : AnyRing) where
  -- what was subtracted, added again
  sum-difference : (p q : Polynomial R) → sum_of R q (difference_of R p q) ≡ p
  unfolding difference_of
  sum-difference p q = ap (sum_of R q) (sum-comm R p (negative_of R q))
      ∙ sym (sum-assoc R q (negative_of R q) p)
      ∙ ap (λ t. sum_of R t p) (sum-comm R q (negative_of R q) ∙ negative-sum R q) ∙ zero-sum R p

  difference-zero : (p : Polynomial R) → p ≡ difference_of R p (zero_of R)
  unfolding difference_of negative_of
  difference-zero p = sym (ap (sum_of R p) (scaled-nothing R _) ∙ sum-zero R p)

  -- one more term of a sum that is subtracted
  difference-more : (b : ℕ) (f : ℕ → Polynomial R) (p acc new : Polynomial R)
      → acc ≡ difference_of R p (between R 0 b f) → new ≡ sum_of R acc (negative_of R (f b))
      → new ≡ difference_of R p (between R 0 (b + 1) f)
  unfolding difference_of negative_of
  difference-more b f p acc new before is = is ∙ ap (λ t. sum_of R t (negative_of R (f b))) before
      ∙ sum-assoc R p _ _ ∙ ap (sum_of R p) (sym (scaled-sum R _ (between R 0 b f) (f b)))
      ∙ ap (λ t. difference_of R p t) (sym (sum_between-suc R 0 b f (omega arith))
      ∙ ap (λ n. between R 0 n f) (sym (add-one b)))

-- the sum when the products own(i) * b(r-i) of i < s are subtracted
pub record IsRest (ring : Ring) (numerator : PartValue) (own b : List PartValue) (r s : ℕ) (acc : AccumulatorValue)
    : Type 0 where
  pub ring_is : acc.ring ≡ ring
  pub degree_is : acc.degree ≡ r
  pub value : polynomial_in ring acc.map
      ≡ difference (polynomial_in ring numerator.map) (sum_between 0 s (crossed ring own b r))

module _ (ring : Ring) (numerator : PartValue) (own b : List PartValue) (r : ℕ) where
  begun : (acc : AccumulatorValue) → Changes ring (record { ring = ring; degree = r; map = empty }) acc
      (polynomial_in ring numerator.map) → IsRest ring numerator own b r 0 acc
  begun acc added = record {
    ring_is = added.ring_is;
    degree_is = added.degree_is;
    value = added.sum_is ∙ ap (λ t. sum t (polynomial_in ring numerator.map)) (polynomial_in-empty ring)
        ∙ zero-sum (ring_of (series ring)) _
        ∙ difference-zero (ring_of (series ring)) (polynomial_in ring numerator.map);
  }

  pub rest-first : (none acc : AccumulatorValue) → none ≡ record { ring = ring; degree = r; map = empty }
      → Changes none.ring none acc (polynomial_in none.ring numerator.map) → IsRest ring numerator own b r 0 acc
  rest-first none acc none_is added = begun acc (subst (λ (t : AccumulatorValue). Changes t.ring t acc
      (polynomial_in t.ring numerator.map)) none_is added)

  pub rest-more : (s : ℕ) (acc new : AccumulatorValue) (x y : PartValue) → IsRest ring numerator own b r s acc
      → x ≡ part_in own s → y ≡ part_in b (r - s)
      → Changes acc.ring acc new (negative (product (polynomial_in acc.ring x.map) (polynomial_in acc.ring y.map)))
      → IsRest ring numerator own b r (s + 1) new
  rest-more s acc new x y before x_is y_is added = with_ring (subst (λ (R : Ring). Changes R acc new
      (negative (product (polynomial_in R x.map) (polynomial_in R y.map)))) before.ring_is added)
    where
      with_ring : Changes ring acc new (negative (product (polynomial_in ring x.map) (polynomial_in ring y.map)))
          → IsRest ring numerator own b r (s + 1) new
      with_ring added = record {
        ring_is = added.ring_is ∙ before.ring_is;
        degree_is = added.degree_is ∙ before.degree_is;
        value = difference-more (ring_of (series ring)) s (crossed ring own b r) (polynomial_in ring numerator.map)
            (polynomial_in ring acc.map) (polynomial_in ring new.map) before.value
            (added.sum_is ∙ ap (λ t. sum (polynomial_in ring acc.map) (negative t))
            (λ i. product (polynomial_in ring (x_is i).map) (polynomial_in ring (y_is i).map)));
      }

  -- the products with zero parts of b are left out
  pub rest-zeros : (s t : ℕ) (acc : AccumulatorValue) → IsRest ring numerator own b r s acc → s ≤ t
      → ((i : ℕ) → s ≤ i → i < t → (part_in b (r - i)).map ≡ empty) → IsRest ring numerator own b r t acc
  rest-zeros s t acc rest le zeros = record {
    ring_is = rest.ring_is;
    degree_is = rest.degree_is;
    value = rest.value
        ∙ ap (difference (polynomial_in ring numerator.map)) (crossed-zeros ring own b r s t le zeros);
  }

  -- the part that is answered, times the constant term that it was divided by
  pub rest-part : (acc : AccumulatorValue) (x y : PartValue) (c : ℕ) → IsRest ring numerator own b r r acc
      → x.degree ≡ acc.degree → x.map ≡ acc.map → y.degree ≡ x.degree
      → scaled c (polynomial_in ring y.map) ≡ polynomial_in ring x.map → IsPartOf ring y
      → IsPartAt ring r y × (scaled c (polynomial_in ring y.map)
      ≡ difference (polynomial_in ring numerator.map) (sum_between 0 r (crossed ring own b r)))
  rest-part acc x y c rest degree map degree_y back part = (
    (degree_y ∙ degree ∙ rest.degree_is, part),
    back ∙ ap (polynomial_in ring) map ∙ rest.value,
  )

-- the quotient has one part more
pub quotient-more : (ring : Ring) (own b : List PartValue) (p : PartValue) (a : Poly (series ring))
    (top : Poly (series ring)) → AreSeriesParts ring own → AreSeriesParts ring b → 0 < length b
    → IsPartAt ring (length own) p
    → scaled (constant_of ring (part_in b 0)) (polynomial_in ring p.map)
    ≡ difference top (sum_between 0 (length own) (crossed ring own b (length own)))
    → homogeneous_part (length own) a ≡ top → AreQuotientParts ring a (series_of ring b) own
    → AreQuotientParts ring a (series_of ring b) (own ++ p ∷ [])
quotient-more ring own b p a top own_are b_are some is p_is a_is before D count = record {
  within = series_within ring (own ++ p ∷ []) are D (omega arith);
  multiplies_back = same_truncation (ring_of (series ring)) (ring_of (series ring)).degree D _ _ (λ r le. elim
      (cases_lt r (length own)) as
      (λ _. homogeneous_part r (product (series_of ring (own ++ p ∷ [])) (series_of ring b)) ≡ homogeneous_part r a) [
        | inl low ↦ earlier r low
        | inr high ↦
            let end : length own ≡ r = omega (arith, length_push own p) in
            subst (λ n. homogeneous_part n (product (series_of ring (own ++ p ∷ []))
            (series_of ring b)) ≡ homogeneous_part n a) end last
      ]);
}
  where
    are : AreSeriesParts ring (own ++ p ∷ [])
    are = parts-more ring own p own_are is

    early : (s : ℕ) → s < length own → homogeneous_part s (series_of ring (own ++ p ∷ [])) ≡ polynomial_in ring
        (part_in own s).map
    early s lt = series_part ring (own ++ p ∷ []) are s
        ∙ ap (λ (t : PartValue). polynomial_in ring t.map) (get_or_append_left own (p ∷ []) nothing s lt)

    early_product : (r : ℕ) → r < length own
        → homogeneous_part r (product (series_of ring (own ++ p ∷ [])) (series_of ring b)) ≡ homogeneous_part r
        (product (series_of ring own) (series_of ring b))
    early_product r lt = homogeneous_part-product (ring_of (series ring)) (ring_of (series ring)).degree (ring_of
        (series ring)).degree_adds r (series_of ring (own ++ p ∷ [])) (series_of ring b)
        ∙ sum_to-same (ring_of (series ring)) r _ _ (λ s le. ap (λ t. product t (homogeneous_part (r - s)
        (series_of ring b)))
        (early s (omega arith) ∙ sym (series_part ring own own_are s)))
        ∙ sym (homogeneous_part-product (ring_of (series ring)) (ring_of (series ring)).degree (ring_of
        (series ring)).degree_adds r (series_of ring own) (series_of ring b))

    earlier : (r : ℕ) → r < length own → homogeneous_part r (product (series_of ring (own ++ p ∷ []))
        (series_of ring b)) ≡ homogeneous_part r a
    earlier r lt = given (length own - 1) (omega arith) (omega arith)
      where
        given : (d : ℕ) → length own ≡ suc d → r ≤ d → homogeneous_part r (product (series_of ring (own ++ p ∷ []))
            (series_of ring b)) ≡ homogeneous_part r a
        given d n le = early_product r lt
            ∙ sym (homogeneous_part-truncated (ring_of (series ring)) (ring_of (series ring)).degree r d _ le)
            ∙ ap (homogeneous_part r) (before d n).multiplies_back
            ∙ homogeneous_part-truncated (ring_of (series ring)) (ring_of (series ring)).degree r d a le

    top_product : product (homogeneous_part (length own) (series_of ring (own ++ p ∷ []))) (homogeneous_part
        (length own - length own) (series_of ring b))
        ≡ difference top (sum_between 0 (length own) (crossed ring own b (length own)))
    top_product = (λ i. product (last_part i) (first_part i))
        ∙ product-constant (ring_of (series ring)) (constant_of ring (part_in b 0)) _ ∙ p_is
      where
        last_part : homogeneous_part (length own) (series_of ring (own ++ p ∷ [])) ≡ polynomial_in ring p.map
        last_part = series_part ring (own ++ p ∷ []) are (length own)
            ∙ ap (λ (t : PartValue). polynomial_in ring t.map) (get_or-append_seam own p [] nothing)

        none : (n : ℕ) → n - n ≡ 0
        none n = omega arith

        first_part : homogeneous_part (length own - length own) (series_of ring b)
            ≡ monomial (constant_of ring (part_in b 0)) (ring_of (series ring)).origin
        first_part = ap (λ n. homogeneous_part n (series_of ring b)) (none (length own)) ∙ series_part ring b b_are 0
            ∙ constant_part ring (part_in b 0) (b_are 0 some)

    last : homogeneous_part (length own) (product (series_of ring (own ++ p ∷ []))
        (series_of ring b)) ≡ homogeneous_part (length own) a
    last = homogeneous_part-product (ring_of (series ring)) (ring_of (series ring)).degree (ring_of
        (series ring)).degree_adds (length own) (series_of ring (own ++ p ∷ [])) (series_of ring b)
        ∙ sum_to-between (ring_of (series ring)) (length own) _
        ∙ sum_between-suc (ring_of (series ring)) 0 (length own) _ (omega arith)
        ∙ (λ i. sum (sum_between-same (ring_of (series ring)) 0 (length own) _ (crossed ring own b (length own))
        (λ s _ lt j.
        product (early s lt j) (series_part ring b b_are (length own - s) j)) i) (top_product i))
        ∙ sum-difference (ring_of (series ring)) top _ ∙ sym a_is

-- the same where r says how many parts there are
pub quotient-more_at : (ring : Ring) (own b : List PartValue) (r : ℕ) (p : PartValue) (a : Poly (series ring))
    (top : Poly (series ring)) → length own ≡ r → AreSeriesParts ring own → AreSeriesParts ring b → 0 < length b
    → IsPartAt ring r p × (scaled (constant_of ring (part_in b 0)) (polynomial_in ring p.map)
    ≡ difference top (sum_between 0 r (crossed ring own b r)))
    → homogeneous_part r a ≡ top → AreQuotientParts ring a (series_of ring b) own
    → AreQuotientParts ring a (series_of ring b) (own ++ p ∷ [])
quotient-more_at ring own b r p a top count own_are b_are some is a_is before =
    quotient-more ring own b p a top own_are b_are some (subst (λ n. IsPartAt ring n p) (sym count) is.0)
    (is.1 ∙ ap (λ n. difference top (sum_between 0 n (crossed ring own b n))) (sym count))
    (ap (λ n. homogeneous_part n a) count ∙ a_is) before
