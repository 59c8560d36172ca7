-- A sum that is added up in an accumulator: what it holds and what is left are the whole.
use Rattle.std.proofs.Common.{◌≡◌, ℕ, suc, ◌+◌, ◌-◌, ◌<◌, ◌≤◌, List, refl, sym}
use Rattle.std.proofs.Common.{◌∙◌, ap, subst, arith, add-one}
use Rattle.std.specs.FinMap.{empty}
use Rattle.ps_model.specs.Notation.{zero as nought, sum, sum_to, sum_between, product}
use Rattle.ps_model.specs.SeriesRing.{ring as ring_of, Poly}
use Rattle.ps_model.proofs.RingLaws.{sum-assoc, sum-zero, zero-sum}
use Rattle.ps_model.proofs.SumsBetween.{sum_between-suc, sum_between-none, sum_to-between}
use Rattle.parts.specs.AccumulatorValue.{AccumulatorValue}
use Rattle.parts.specs.PartValue.{PartValue, IsPartOf}
use Rattle.parts.specs.RowsOfParts.{part_in}
use Rattle.parts.specs.Series.{series, polynomial_in}
use Rattle.parts.specs.declared.rings.Ring.{Ring}
use Rattle.parts.proofs.Polynomials.{polynomial_in-empty}
use Rattle.units.specs.SeriesParts.{Changes}
use Rattle.units.proofs.Crossed.{crossed, crossed-zeros}
use Rattle.series_graph.specs.Sums.{IsPartWith}

-- the sum when rest is left of it
pub record IsSumSoFar (ring : Ring) (r : ℕ) (whole rest : Poly (series ring)) (acc : AccumulatorValue) : Type 0 where
  pub ring_is : acc.ring ≡ ring
  pub degree_is : acc.degree ≡ r
  pub total : sum (polynomial_in ring acc.map) rest ≡ whole

module _ (ring : Ring) (r : ℕ) (whole : Poly (series ring)) where
  pub sum-first : (acc : AccumulatorValue) → acc ≡ record { ring = ring; degree = r; map = empty }
      → IsSumSoFar ring r whole whole acc
  sum-first acc is = record {
    ring_is = ap (λ (t : AccumulatorValue). t.ring) is;
    degree_is = ap (λ (t : AccumulatorValue). t.degree) is;
    total = ap (λ (t : AccumulatorValue). sum (polynomial_in ring t.map) whole) is
        ∙ ap (λ t. sum t whole) (polynomial_in-empty ring) ∙ zero-sum (ring_of (series ring)) whole;
  }

  pub sum-more : (term rest rest' : Poly (series ring)) (acc new : AccumulatorValue) → rest ≡ sum term rest'
      → IsSumSoFar ring r whole rest acc → Changes ring acc new term → IsSumSoFar ring r whole rest' new
  sum-more term rest rest' acc new is before added = record {
    ring_is = added.ring_is ∙ before.ring_is;
    degree_is = added.degree_is ∙ before.degree_is;
    total = ap (λ t. sum t rest') added.sum_is
        ∙ sum-assoc (ring_of (series ring)) (polynomial_in ring acc.map) term rest'
        ∙ ap (sum (polynomial_in ring acc.map)) (sym is) ∙ before.total;
  }

  pub sum-all : (rest : Poly (series ring)) (acc : AccumulatorValue) (p : PartValue) → rest ≡ nought
      → IsSumSoFar ring r whole rest acc → p.degree ≡ acc.degree → p.map ≡ acc.map → IsPartOf acc.ring p
      → IsPartWith ring r whole p
  sum-all rest acc p none all degree map part = (
    (degree ∙ all.degree_is, subst (λ (R : Ring). IsPartOf R p) all.ring_is part),
    ap (polynomial_in ring) map ∙ sym (sum-zero (ring_of (series ring)) (polynomial_in ring acc.map))
        ∙ ap (sum (polynomial_in ring acc.map)) (sym none) ∙ all.total,
  )

-- the sum with the products a(i) * b(r-i) of i < s added
pub record HasProducts (a b : List PartValue) (r s : ℕ) (old acc : AccumulatorValue) : Type 0 where
  pub ring_is : acc.ring ≡ old.ring
  pub degree_is : acc.degree ≡ old.degree
  pub value : polynomial_in old.ring acc.map
      ≡ sum (polynomial_in old.ring old.map) (sum_between 0 s (crossed old.ring a b r))

module _ (a b : List PartValue) (r : ℕ) (old : AccumulatorValue) where
  pub products-first : HasProducts a b r 0 old old
  products-first = record {
    ring_is = refl;
    degree_is = refl;
    value = sym (ap (sum (polynomial_in old.ring old.map))
        (sum_between-none (ring_of (series old.ring)) 0 0 (crossed old.ring a b r) (omega arith))
        ∙ sum-zero (ring_of (series old.ring)) (polynomial_in old.ring old.map));
  }

  pub products-more : (s : ℕ) (acc new : AccumulatorValue) (x y : PartValue) → HasProducts a b r s old acc
      → x ≡ part_in a s → y ≡ part_in b (r - s)
      → Changes acc.ring acc new (product (polynomial_in acc.ring x.map) (polynomial_in acc.ring y.map))
      → HasProducts a b r (s + 1) old new
  products-more s acc new x y before x_is y_is added = with_ring (subst (λ (R : Ring). Changes R acc new
      (product (polynomial_in R x.map) (polynomial_in R y.map))) before.ring_is added)
    where
      with_ring : Changes old.ring acc new (product (polynomial_in old.ring x.map) (polynomial_in old.ring y.map))
          → HasProducts a b r (s + 1) old new
      with_ring added = record {
        ring_is = added.ring_is ∙ before.ring_is;
        degree_is = added.degree_is ∙ before.degree_is;
        value = added.sum_is
            ∙ (λ i. sum (before.value i) (product (polynomial_in old.ring (x_is i).map)
            (polynomial_in old.ring (y_is i).map)))
            ∙ sum-assoc (ring_of (series old.ring)) (polynomial_in old.ring old.map)
            (sum_between 0 s (crossed old.ring a b r)) (crossed old.ring a b r s)
            ∙ ap (sum (polynomial_in old.ring old.map))
            (sym (sum_between-suc (ring_of (series old.ring)) 0 s (crossed old.ring a b r) (omega arith))
            ∙ ap (λ n. sum_between 0 n (crossed old.ring a b r)) (sym (add-one s)));
      }

  -- nothing is added by the products with zero parts of b
  pub products-zeros : (s t : ℕ) (acc : AccumulatorValue) → HasProducts a b r s old acc → s ≤ t
      → ((i : ℕ) → s ≤ i → i < t → (part_in b (r - i)).map ≡ empty) → HasProducts a b r t old acc
  products-zeros s t acc before le zeros = record {
    ring_is = before.ring_is;
    degree_is = before.degree_is;
    value = before.value
        ∙ ap (sum (polynomial_in old.ring old.map)) (crossed-zeros old.ring a b r s t le zeros);
  }

  pub products-all : (s : ℕ) (acc : AccumulatorValue) → s ≡ suc r → HasProducts a b r s old acc
      → Changes old.ring old acc (sum_to r (crossed old.ring a b r))
  products-all s acc end all = record {
    ring_is = all.ring_is;
    degree_is = all.degree_is;
    sum_is = all.value ∙ ap (sum (polynomial_in old.ring old.map))
        (ap (λ n. sum_between 0 n (crossed old.ring a b r)) end
        ∙ sym (sum_to-between (ring_of (series old.ring)) r (crossed old.ring a b r)));
  }
