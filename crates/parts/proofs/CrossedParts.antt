-- Products of series that are subtracted part by part, and what is answered.
use Rattle.std.proofs.Common.{◌≡◌, ℕ, ◌+◌, ◌-◌, ◌≤◌, ◌⊎◌, inl, inr, List, length, map, true, refl, sym}
use Rattle.std.proofs.Common.{◌∙◌, ap, subst, arith}
use Rattle.std.proofs.Math.ListN.{get_or-eq_default}
use Rattle.std.specs.FinMap.{empty, from_entries}
use Rattle.ps_model.specs.FiniteMaps.{scale_map}
use Rattle.ps_model.specs.Keys.{key_compare}
use Rattle.ps_model.specs.Notation.{zero as nought, sum, scaled, product, difference, sum_between}
use Rattle.ps_model.specs.SeriesRing.{ring as ring_of, Poly}
use Rattle.ps_model.proofs.Images.{scaled_one}
use Rattle.ps_model.proofs.RingLaws.{product-zero, zero-product, zero-sum}
use Rattle.parts.specs.AccumulatorValue.{AccumulatorValue, after_multiple, after_product}
use Rattle.parts.specs.CrossedEntries.{left_in}
use Rattle.parts.specs.PartValue.{PartValue, IsPartOf}
use Rattle.parts.specs.TermLists.{IsTotal}
use Rattle.parts.specs.Terms.{entry_of}
use Rattle.parts.specs.Rings.{modulus_of}
use Rattle.parts.specs.RowsOfParts.{nothing, part_in}
use Rattle.parts.specs.Series.{series, polynomial_in}
use Rattle.parts.specs.SeriesParts.{SeriesValue, SubtractsFrom, IsLessCrossed, facing_parts, crossed_parts}
use Rattle.parts.specs.SeriesParts.{parts_at}
use Rattle.parts.specs.declared.rings.Ring.{Ring}
use Rattle.parts.specs.declared.terms.Term.{Term}
use Rattle.parts.proofs.Accumulated.{with_multiple-is, with_product-less, scaled-is}
use Rattle.parts.proofs.Built.{total_is}
use Rattle.parts.proofs.CrossedPolynomials.{left-is}
use Rattle.parts.proofs.Differences.{difference-zero, difference-more, difference-none}
use Rattle.parts.proofs.Polynomials.{polynomial_in-empty}

-- nothing was subtracted yet
pub subtracts-none : (acc : AccumulatorValue) (f : ℕ → Poly (series acc.ring)) →
    SubtractsFrom acc acc (sum_between 0 0 f)
subtracts-none acc f = record {
  ring_is = refl;
  degree_is = refl;
  sum_is = difference-none (ring_of (series acc.ring)) 0 0 f (polynomial_in acc.ring acc.map)
      (let z : 0 ≤ 0 = omega arith in z);
}

-- one polynomial more
pub subtracts-more : (f : (ring : Ring) → ℕ → Poly (series ring)) (old acc new : AccumulatorValue) (s : ℕ) →
    SubtractsFrom old acc (sum_between 0 s (f old.ring)) → SubtractsFrom acc new (f acc.ring s) →
    SubtractsFrom old new (sum_between 0 (s + 1) (f old.ring))
subtracts-more f old acc new s before step = record {
  ring_is = step.ring_is ∙ before.ring_is;
  degree_is = step.degree_is ∙ before.degree_is;
  sum_is = difference-more (ring_of (series old.ring)) 0 s (f old.ring)
      (polynomial_in old.ring old.map) (polynomial_in old.ring acc.map) (polynomial_in old.ring new.map)
      (let z : 0 ≤ s = omega arith in z) before.sum_is
      (subst (λ (R : Ring). polynomial_in R new.map ≡ difference (polynomial_in R acc.map) (f R s)) before.ring_is
      step.sum_is);
}

-- the product of two parts that face each other
pub subtracts-product : (acc new : AccumulatorValue) (r s : ℕ) (a w : List PartValue) (x y : PartValue) →
    x ≡ part_in a s → y ≡ part_in w (r - s) → new ≡ after_product acc true x y →
    SubtractsFrom acc new (facing_parts acc.ring r a w s)
subtracts-product acc new r s a w x y x_is y_is is = record {
  ring_is = ap (λ (t : AccumulatorValue). t.ring) is;
  degree_is = ap (λ (t : AccumulatorValue). t.degree) is;
  sum_is = ap (λ (t : AccumulatorValue). polynomial_in acc.ring t.map) is
      ∙ with_product-less acc.ring acc.map x.map y.map
      ∙ (λ i. difference (polynomial_in acc.ring acc.map) (product (polynomial_in acc.ring (x_is i).map)
      (polynomial_in acc.ring (y_is i).map)));
}

-- a part that isn't there
pub subtracts-nothing : (acc : AccumulatorValue) (r s : ℕ) (a w : List PartValue) →
    (length a ≤ s) ⊎ (length w ≤ r - s) → SubtractsFrom acc acc (facing_parts acc.ring r a w s)
subtracts-nothing acc r s a w past = record {
  ring_is = refl;
  degree_is = refl;
  sum_is = sym (ap (difference (polynomial_in acc.ring acc.map)) (none past) ∙
      difference-zero (ring_of (series acc.ring)) (polynomial_in acc.ring acc.map));
}
  where
    gone : (ps : List PartValue) (i : ℕ) → length ps ≤ i → polynomial_in acc.ring (part_in ps i).map ≡ nought
    gone ps i le = ap (λ (p : PartValue). polynomial_in acc.ring p.map) (get_or-eq_default ps nothing le) ∙
        polynomial_in-empty acc.ring

    none : (length a ≤ s) ⊎ (length w ≤ r - s) → facing_parts acc.ring r a w s ≡ nought
    none (inl le) = ap (λ (t : Poly (series acc.ring)). product t (polynomial_in acc.ring (part_in w (r - s)).map))
        (gone a s le) ∙ zero-product (ring_of (series acc.ring)) _
    none (inr le) = ap (product (polynomial_in acc.ring (part_in a s).map)) (gone w (r - s) le) ∙
        product-zero (ring_of (series acc.ring)) _

-- the part that is answered
pub from_parts-done : (ring : Ring) (start whole p : PartValue) (none first last : AccumulatorValue)
    (a w : List SeriesValue) (l factor : ℕ) →
    none ≡ record { ring = ring; degree = start.degree; map = empty } → first ≡ after_multiple none 1 start →
    SubtractsFrom first last (crossed_parts first.ring start.degree a w l) → whole.degree ≡ last.degree →
    whole.map ≡ last.map → p.degree ≡ whole.degree →
    p.map ≡ scale_map (key_compare 8) (modulus_of ring) factor whole.map → IsPartOf ring p →
    IsLessCrossed ring start a w l factor p
from_parts-done ring start whole p none first last a w l factor none_is first_is less degree map_is p_degree p_map part
    = record {
      degree = p_degree ∙ degree ∙ less.degree_is ∙ ap (λ (t : AccumulatorValue). t.degree) first_is ∙
          ap (λ (t : AccumulatorValue). t.degree) none_is;
      part = part;
      value = ap (polynomial_in ring) p_map ∙ scaled-is ring factor whole.map ∙
          ap (scaled factor) (ap (polynomial_in ring) map_is ∙
          subst (λ (R : Ring). polynomial_in R last.map ≡
          difference (polynomial_in R first.map) (crossed_parts R start.degree a w l)) ring_is less.sum_is ∙
          ap (λ (t : Poly (series ring)). difference t (crossed_parts ring start.degree a w l)) starts);
    }
  where
    ring_is : first.ring ≡ ring
    ring_is = ap (λ (t : AccumulatorValue). t.ring) first_is ∙ ap (λ (t : AccumulatorValue). t.ring) none_is

    starts : polynomial_in ring first.map ≡ polynomial_in ring start.map
    starts = ap (λ (t : AccumulatorValue). polynomial_in ring t.map) first_is ∙
        ap (λ (t : AccumulatorValue). polynomial_in ring (after_multiple t 1 start).map) none_is ∙
        with_multiple-is ring 1 empty start.map ∙
        (λ i. sum (polynomial_in-empty ring i) (scaled_one (ring_of (series ring)) (polynomial_in ring start.map) i)) ∙
        zero-sum (ring_of (series ring)) (polynomial_in ring start.map)

-- the part whose terms were built place by place
pub rows-done : (ring : Ring) (start p : PartValue) (a w : List SeriesValue) (l factor : ℕ) (ts : List Term) →
    IsTotal ring start.degree (left_in ring start a w l factor) ts → p.degree ≡ start.degree →
    p.map ≡ from_entries (map entry_of ts) → IsPartOf ring p → IsLessCrossed ring start a w l factor p
rows-done ring start p a w l factor ts built degree is part = record {
  degree = degree;
  part = part;
  value = ap (polynomial_in ring) (is ∙ total_is ring start.degree (left_in ring start a w l factor) ts built) ∙
      left-is ring start.degree start.map (length a) (parts_at a) (λ h. parts_at w (l - h)) factor;
}
