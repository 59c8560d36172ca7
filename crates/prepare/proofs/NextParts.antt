-- Parts from products of series: those that the recurrences give.
use Rattle.std.proofs.Common.{◌≡◌, ℕ, suc, ◌+◌, ◌-◌, ◌<◌, ◌≤◌, List, [], ◌∷◌, ◌++◌, length, sym, ◌∙◌, ap, subst}
use Rattle.std.proofs.Common.{take, arith, inl, inr}
use Rattle.std.proofs.Math.ListN.{get_or-eq_default}
use Rattle.std.proofs.lemmas.Bool.{cases_lt}
use Rattle.std.proofs.lemmas.List.{get_or_append_left, length-take-le}
use Rattle.std.specs.FinMap.{FinMap, empty}
use Rattle.ps_model.specs.Keys.{key_compare}
use Rattle.ps_model.specs.Notation.{zero as nought, sum, scaled, difference, product, sum_between}
use Rattle.ps_model.specs.Recurrences.{crossed_product}
use Rattle.ps_model.specs.SeriesRing.{ring as ring_of, Poly}
use Rattle.ps_model.proofs.Images.{scaled_one}
use Rattle.ps_model.proofs.RingLaws.{zero-product, zero-sum, sum-zero}
use Rattle.ps_model.proofs.SumsBetween.{sum_between-suc, sum_between-first, sum_between-same}
use Rattle.parts.specs.PartValue.{PartValue}
use Rattle.parts.specs.RowsOfParts.{nothing, part_in, AreRowsOfParts}
use Rattle.parts.specs.Series.{series, polynomial_in}
use Rattle.parts.specs.SeriesParts.{SeriesValue, IsLessCrossed, facing_parts, crossed_part, crossed_parts, parts_at}
use Rattle.parts.specs.declared.rings.Ring.{Ring}
use Rattle.parts.proofs.Polynomials.{part_at-rows, polynomial_in-empty}
use Rattle.parts.proofs.SeriesRead.{parts_past}
use Rattle.prepare.specs.Columns.{column, AreColumns, HasNoneAtStart}
use Rattle.prepare.specs.Recurrence.{poly, slices, next_p, next_u}
use Rattle.prepare.proofs.Columns.{IsGrowing, column_at, column_length, parts_taken}
use Rattle.prepare.proofs.Crossed.{slice_beyond}
use Rattle.prepare.proofs.Places.{IsPartAt}
use Rattle.prepare.proofs.Stepped.{at_early}

-- a slice is the part of a column
slice_is : (ring : Ring) (rows : List (List PartValue)) (s j : ℕ) →
    poly ring (part_in (column rows j) s) ≡ slices ring rows s j
slice_is ring rows s j = ap (poly ring) (column_at rows j s) ∙ sym (part_at-rows ring rows s j)

-- the series that faces one, also past the end
pub partner : (ring : Ring) (q : ℕ) (rows : List (List PartValue)) (all : List SeriesValue) →
    AreRowsOfParts ring q rows → length all ≡ suc q → (j : ℕ) → (j ≤ q → parts_at all j ≡ column rows j) → (t : ℕ) →
    poly ring (part_in (parts_at all j) t) ≡ slices ring rows t j
partner ring q rows all are count j is t = elim (cases_lt q j) [
  | inl past ↦ ap (λ (ps : List PartValue). poly ring (part_in ps t)) (parts_past all j (omega arith)) ∙
      ap (poly ring) (get_or-eq_default none nothing {n = t} (omega arith)) ∙ polynomial_in-empty ring ∙
      sym (slice_beyond ring q rows are t j past)
  | inr there ↦ ap (λ (ps : List PartValue). poly ring (part_in ps t)) (is there) ∙ slice_is ring rows t j
]
  where
    none : List PartValue
    none = []

module _ (ring : Ring) (r : ℕ) (rows_p rows_u : List (List PartValue)) (last : List PartValue)
    (n_p : length rows_p ≡ r) (some : 1 ≤ r) where
  -- series of p without a part of degree 0: the first product is zero
  first_none : (a w : List PartValue) → (part_in a 0).map ≡ empty → facing_parts ring r a w 0 ≡ nought
  first_none a w none = ap (λ (m : FinMap (key_compare 8) ℕ). product (polynomial_in ring m)
      (polynomial_in ring (part_in w (r - 0)).map)) none ∙
      ap (λ (t : Poly (series ring)). product t (polynomial_in ring (part_in w (r - 0)).map))
      (polynomial_in-empty ring) ∙ zero-product (ring_of (series ring)) _

  after_first : (a w : List PartValue) → (part_in a 0).map ≡ empty →
      crossed_part ring r a w ≡ sum_between 1 (suc r) (facing_parts ring r a w)
  after_first a w none = sum_between-first (ring_of (series ring)) 0 (suc r) (facing_parts ring r a w) (omega arith) ∙
      ap (λ (t : Poly (series ring)). sum t (sum_between 1 (suc r) (facing_parts ring r a w))) (first_none a w none) ∙
      zero-sum (ring_of (series ring)) _

  -- a series of p that has its part of degree r
  crossed_grown : (w : List PartValue) (i j : ℕ) → (part_in (column (rows_p ++ last ∷ []) i) 0).map ≡ empty →
      ((t : ℕ) → poly ring (part_in w t) ≡ slices ring rows_u t j) →
      crossed_part ring r (column (rows_p ++ last ∷ []) i) w ≡
      crossed_product r (slices ring (rows_p ++ last ∷ [])) (slices ring rows_u) i j
  crossed_grown w i j none faces = after_first (column (rows_p ++ last ∷ []) i) w none ∙
      sum_between-same (ring_of (series ring)) 1 (suc r) _ _
      (λ s _ _. (λ l. product (slice_is ring (rows_p ++ last ∷ []) s i l) (faces (r - s) l)))

  -- and one that hasn't yet
  crossed_short : (w : List PartValue) (i j : ℕ) → (part_in (column rows_p i) 0).map ≡ empty →
      ((t : ℕ) → poly ring (part_in w t) ≡ slices ring rows_u t j) →
      crossed_part ring r (column rows_p i) w ≡
      sum_between 1 r (λ s. product (slices ring (rows_p ++ last ∷ []) s i) (slices ring rows_u (r - s) j))
  crossed_short w i j none faces = after_first (column rows_p i) w none ∙
      sum_between-suc (ring_of (series ring)) 1 r (facing_parts ring r (column rows_p i) w) some ∙
      ap (sum (sum_between 1 r (facing_parts ring r (column rows_p i) w))) end ∙
      sum-zero (ring_of (series ring)) _ ∙
      sum_between-same (ring_of (series ring)) 1 r _ _
      (λ s _ lt. (λ l. product ((slice_is ring rows_p s i ∙ at_early ring rows_p last s i (omega arith)) l)
      (faces (r - s) l)))
    where
      end : facing_parts ring r (column rows_p i) w r ≡ nought
      end = ap (λ (p : PartValue). product (poly ring p) (polynomial_in ring (part_in w (r - r)).map))
          (get_or-eq_default (column rows_p i) nothing (omega (arith, column_length rows_p i))) ∙
          ap (λ (t : Poly (series ring)). product t (polynomial_in ring (part_in w (r - r)).map))
          (polynomial_in-empty ring) ∙ zero-product (ring_of (series ring)) _

  module _ (k : ℕ) (none : HasNoneAtStart k rows_p) where
    none_short : (i : ℕ) → i < k → (part_in (column rows_p i) 0).map ≡ empty
    none_short i lt = ap (λ (p : PartValue). p.map) (column_at rows_p i 0) ∙ none i lt

    none_grown : (i : ℕ) → i < k → (part_in (column (rows_p ++ last ∷ []) i) 0).map ≡ empty
    none_grown i lt = ap (λ (p : PartValue). p.map) (column_at (rows_p ++ last ∷ []) i 0 ∙
        ap (λ (row : List PartValue). part_in row i) (get_or_append_left rows_p (last ∷ []) [] 0 (omega arith))) ∙
        none i lt

    -- the next part of p
    pub less_p : (e i : ℕ) (row : List PartValue) (a w : List SeriesValue) (x : PartValue) → i < k →
        (part_in row i).degree ≡ r → length a ≡ i + 1 →
        ((h : ℕ) → h < i → parts_at a h ≡ column (rows_p ++ last ∷ []) h) → parts_at a i ≡ column rows_p i →
        ((j t : ℕ) → poly ring (part_in (parts_at w j) t) ≡ slices ring rows_u t j) →
        IsLessCrossed ring (part_in row i) a w i e x →
        IsPartAt ring r x × (poly ring x ≡ next_p ring e r rows_p rows_u row last i)
    less_p e i row a w x lt degree count earlier own faces is = (
      (is.degree ∙ degree, is.part),
      is.value ∙ ap (λ (t : Poly (series ring)). scaled e (difference (poly ring (part_in row i)) t)) taken,
    )
      where
        taken : crossed_parts ring (part_in row i).degree a w i ≡ sum
            (sum_between 0 i (λ h. crossed_product r (slices ring (rows_p ++ last ∷ [])) (slices ring rows_u) h (i - h)))
            (sum_between 1 r (λ s. product (slices ring (rows_p ++ last ∷ []) s i) (slices ring rows_u (r - s) 0)))
        taken = (λ l. crossed_parts ring (degree l) a w i) ∙
            ap (λ n. sum_between 0 n (λ h. crossed_part ring r (parts_at a h) (parts_at w (i - h))))
            (let n : length a ≡ suc i = omega arith in n) ∙
            sum_between-suc (ring_of (series ring)) 0 i (λ h. crossed_part ring r (parts_at a h) (parts_at w (i - h)))
            (omega arith) ∙
            (λ l. sum (sum_between-same (ring_of (series ring)) 0 i
            (λ h. crossed_part ring r (parts_at a h) (parts_at w (i - h)))
            (λ h. crossed_product r (slices ring (rows_p ++ last ∷ [])) (slices ring rows_u) h (i - h))
            (λ h _ low. ap (λ (ps : List PartValue). crossed_part ring r ps (parts_at w (i - h))) (earlier h low) ∙
            crossed_grown (parts_at w (i - h)) h (i - h) (none_grown h (omega arith)) (faces (i - h))) l)
            ((ap (λ (ps : List PartValue). crossed_part ring r ps (parts_at w (i - i))) own ∙
            crossed_short (parts_at w (i - i)) i 0 (none_short i lt)
            (λ t. faces (i - i) t ∙ ap (slices ring rows_u t) (omega arith))) l))

    -- the next part of u
    pub less_u : (j : ℕ) (row : List PartValue) (a w : List SeriesValue) (x : PartValue) →
        (part_in row (k + j)).degree ≡ r → length a ≡ k →
        ((h : ℕ) → h < k → parts_at a h ≡ column (rows_p ++ last ∷ []) h) →
        ((h t : ℕ) → j < h → poly ring (part_in (parts_at w h) t) ≡ slices ring rows_u t h) →
        IsLessCrossed ring (part_in row (k + j)) a w (k + j) 1 x →
        IsPartAt ring r x × (poly ring x ≡ next_u ring k r rows_p rows_u row last j)
    less_u j row a w x degree count all faces is = (
      (is.degree ∙ degree, is.part),
      is.value ∙ scaled_one (ring_of (series ring)) _ ∙ ap (difference (poly ring (part_in row (k + j)))) taken,
    )
      where
        taken : crossed_parts ring (part_in row (k + j)).degree a w (k + j) ≡ sum_between 0 k
            (λ i. crossed_product r (slices ring (rows_p ++ last ∷ [])) (slices ring rows_u) i (k + j - i))
        taken = (λ l. crossed_parts ring (degree l) a w (k + j)) ∙
            ap (λ n. sum_between 0 n (λ h. crossed_part ring r (parts_at a h) (parts_at w (k + j - h)))) count ∙
            sum_between-same (ring_of (series ring)) 0 k
            (λ h. crossed_part ring r (parts_at a h) (parts_at w (k + j - h)))
            (λ h. crossed_product r (slices ring (rows_p ++ last ∷ [])) (slices ring rows_u) h (k + j - h))
            (λ h _ low. ap (λ (ps : List PartValue). crossed_part ring r ps (parts_at w (k + j - h))) (all h low) ∙
            crossed_grown (parts_at w (k + j - h)) h (k + j - h) (none_grown h low)
            (λ t. faces (k + j - h) t (omega arith)))

-- what a round of next_of_p makes, of what is read there
pub made_p : (ring : Ring) (k q e i r : ℕ) (rows_p rows_u : List (List PartValue)) (row last : List PartValue)
    (left right a w : List SeriesValue) (start x : PartValue) → length rows_p ≡ r → 1 ≤ r → i < k →
    HasNoneAtStart k rows_p → AreRowsOfParts ring q rows_u → AreColumns ring (suc q) rows_u right →
    IsGrowing ring k rows_p last i left → a ≡ take (i + 1) left → w ≡ right →
    IsPartAt ring r start × (start ≡ part_in row i) → IsLessCrossed ring start a w i e x →
    IsPartAt ring r x × (poly ring x ≡ next_p ring e r rows_p rows_u row last i)
made_p ring k q e i r rows_p rows_u row last left right a w start x n_p some lt none us columns growing a_is w_is
    given is =
    let c = growing.count in
    let long : length (take (i + 1) left) ≡ i + 1 = length-take-le (i + 1) left (omega arith) in
    less_p ring r rows_p rows_u last n_p some k none e i row (take (i + 1) left) right x lt
    (sym (ap (λ (p : PartValue). p.degree) given.1) ∙ given.0.0) long
    (λ h low. parts_taken left (i + 1) h (omega arith) (omega arith) ∙ growing.earlier h low)
    (parts_taken left (i + 1) i (omega arith) (omega arith) ∙ growing.later i (omega arith) lt)
    (λ j t. partner ring q rows_u right us columns.count j (λ le. columns.parts j (omega arith)) t)
    (subst (λ (t : PartValue × (List SeriesValue × List SeriesValue)). IsLessCrossed ring t.0 t.1.0 t.1.1 i e x)
    (λ l. (given.1 l, (a_is l, w_is l))) is)

-- and one of next_of_u
pub made_u : (ring : Ring) (k q j r : ℕ) (rows_p rows_u : List (List PartValue)) (row last next : List PartValue)
    (right left a w : List SeriesValue) (start x : PartValue) → length rows_p ≡ r → 1 ≤ r →
    HasNoneAtStart k rows_p → AreRowsOfParts ring q rows_u → AreColumns ring k (rows_p ++ last ∷ []) left →
    IsGrowing ring (suc q) rows_u next j right → a ≡ left → w ≡ right →
    IsPartAt ring r start × (start ≡ part_in row (k + j)) → IsLessCrossed ring start a w (k + j) 1 x →
    IsPartAt ring r x × (poly ring x ≡ next_u ring k r rows_p rows_u row last j)
made_u ring k q j r rows_p rows_u row last next right left a w start x n_p some none us columns growing a_is w_is
    given is =
    less_u ring r rows_p rows_u last n_p some k none j row left right x
    (sym (ap (λ (p : PartValue). p.degree) given.1) ∙ given.0.0) columns.count columns.parts
    (λ h t lt. partner ring q rows_u right us growing.count h (λ le. growing.later h (omega arith) (omega arith)) t)
    (subst (λ (t : PartValue × (List SeriesValue × List SeriesValue)). IsLessCrossed ring t.0 t.1.0 t.1.1 (k + j) 1 x)
    (λ l. (given.1 l, (a_is l, w_is l))) is)
