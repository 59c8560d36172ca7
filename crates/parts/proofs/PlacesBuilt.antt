-- Terms that are built place by place, from the last place down, are those of a formal sum.
use Rattle.std.proofs.Common.{◌≡◌, ℕ, zero, suc, ◌+◌, ◌*◌, ◌%◌, ◌<◌, ◌≤◌, List, [], ◌∷◌, ◌++◌, length, All, refl, sym}
use Rattle.std.proofs.Common.{◌∙◌, ap, arith, inl, inr}
use Rattle.std.specs.Prelude.{Option, Some, None}
use Rattle.std.proofs.lemmas.Bool.{cases_lt}
use Rattle.std.specs.Cmp.{tied_itself}
use Rattle.std.specs.declared.cmp.Ordering.TheVariants.{Less, Equal}
use Rattle.ps_model.specs.Keys.{Key, key_compare, numbers}
use Rattle.ps_model.specs.KeyLaws.{key_compare_total}
use Rattle.ps_model.specs.Sums.{total}
use Rattle.ps_model.proofs.Coefficients.{plus-mod, times-mod}
use Rattle.residue.specs.Products.{sum_below}
use Rattle.residue.proofs.Products.{sum_below-zero, sum_below-same}
use Rattle.parts.specs.Places.{dot, size, multipliers}
use Rattle.parts.specs.Terms.{IsKeyOf, key_of, entry_of, key_at}
use Rattle.parts.specs.TermLists.{terms_total, IsTotal, unless_zero}
use Rattle.parts.specs.PartValue.{IsEntryOf}
use Rattle.parts.specs.Rings.{modulus_of, weights_of}
use Rattle.parts.specs.SeriesRows.{indicator}
use Rattle.parts.specs.declared.rings.Ring.{Ring}
use Rattle.parts.specs.declared.terms.Term.{Term}
use Rattle.parts.proofs.Built.{IsBuilt, no_terms, built_push, built_whole}
use Rattle.parts.proofs.Collected.{at_place, falls, key_at-place, place-below-size}
use Rattle.parts.proofs.Ordered.{ArePositive}
use Rattle.parts.proofs.Indicators.{indicator-same, indicator-other}
use Rattle.parts.proofs.PairSums.{sum_below-one, sum_below-linear}

-- 1 at the key that a place has, else 0
abbrev pub at_key_of : Option (Key 8) → Key 8 → ℕ
at_key_of None k = 0
at_key_of (Some z) k = indicator z k

-- what a formal sum has at a place, times a form there
abbrev pub share_at : List ℕ → ℕ → List (Key 8 × ℕ) → (Key 8 → ℕ) → ℕ → ℕ
share_at ws r es f j = total (at_key_of (key_at r ws j)) es * at_place f (key_at r ws j)

-- k stands before the keys of the first n places
abbrev pub IsBeforePlaces : List ℕ → ℕ → ℕ → Key 8 → Type 0
IsBeforePlaces ws r n k = (j : ℕ) → j < n → (z : Key 8) → key_at r ws j ≡ Some z → key_compare 8 k z ≡ Less

-- the terms of all places from n on
abbrev pub ArePlacesFrom : Ring → ℕ → List (Key 8 × ℕ) → ℕ → List Term → Type 0
ArePlacesFrom ring r es n ts = IsBuilt ring r (λ f. total f es)
    (λ f. sum_below n (share_at (weights_of ring) r es f)) (IsBeforePlaces (weights_of ring) r n) ts

module _ (ws : List ℕ) (r : ℕ) (some : 0 < length ws) (few : length ws ≤ 8) (positive : ArePositive ws) where
  -- no place has the key of another
  pub apart : (i j : ℕ) → i < size r ws → j < size r ws → (i ≡ j → ⊥) → (k : Key 8) → key_at r ws i ≡ Some k →
      key_at r ws j ≡ Some k → ⊥
  apart i j lt below ne k p q = elim (cases_lt i j) [
    | inl l ↦ clash (falls (size r ws) r ws few j i l below k k q p)
    | inr g ↦ clash (falls (size r ws) r ws few i j (omega arith) lt k k p q)
  ]
    where
      clash : key_compare 8 k k ≡ Less → ⊥
      clash e = let t : key_compare 8 k k ≡ Equal = tied_itself (key_compare_total 8) k in cc

  one_place : (f : Key 8 → ℕ) (k : Key 8) → IsKeyOf ws r k →
      sum_below (size r ws) (λ j. at_key_of (key_at r ws j) k * at_place f (key_at r ws j)) ≡ f k
  one_place f k is = sum_below-one (size r ws) P _ below other ∙
      ap (λ o. at_key_of o k * at_place f o) here ∙
      (let one : indicator k k ≡ 1 = indicator-same k k refl in
      let t : indicator k k * f k ≡ f k = rw one (omega arith) in t)
    where
      P : ℕ
      P = dot (multipliers r ws) (numbers 8 k.powers)

      below : P < size r ws
      below = place-below-size r r ws k some few positive is (omega arith)

      here : key_at r ws P ≡ Some k
      here = key_at-place r ws k some few positive is

      nothing_there : (j : ℕ) (o : Option (Key 8)) → key_at r ws j ≡ o → ((z : Key 8) → o ≡ Some z → (z ≡ k → ⊥)) →
          at_key_of o k * at_place f o ≡ 0
      nothing_there j None e h = refl
      nothing_there j (Some z) e h =
          let none : indicator z k ≡ 0 = indicator-other z k (h z refl) in rw none (omega arith)

      other : (j : ℕ) → j < size r ws → (j ≡ P → ⊥) → at_key_of (key_at r ws j) k * at_place f (key_at r ws j) ≡ 0
      other j lt ne = nothing_there j (key_at r ws j) refl
          (λ z e s. apart j P lt below ne k (e ∙ ap Some s) here)

  -- the shares of all places are the whole
  pub all_places : (f : Key 8 → ℕ) (es : List (Key 8 × ℕ)) → All (λ e. IsKeyOf ws r e.0) es →
      sum_below (size r ws) (share_at ws r es f) ≡ total f es
  all_places f [] h = sum_below-zero (size r ws) _ (λ j _. nought (at_place f (key_at r ws j)))
    where
      nought : (n : ℕ) → 0 * n ≡ 0
      nought n = omega arith
  all_places f (e ∷ es) h = sum_below-same (size r ws) _ _ (λ j _. split (key_at r ws j)) ∙
      sum_below-linear (size r ws) e.1 (λ j. at_key_of (key_at r ws j) e.0 * at_place f (key_at r ws j))
      (share_at ws r es f) ∙
      (λ i. e.1 * one_place f e.0 (h 0 e (omega arith)) i + all_places f es (λ j d lt. h (suc j) d (omega arith)) i)
    where
      split : (o : Option (Key 8)) → total (at_key_of o) (e ∷ es) * at_place f o ≡
          e.1 * (at_key_of o e.0 * at_place f o) + total (at_key_of o) es * at_place f o
      split o = omega arith

-- place by place, from the last one down
module _ (ring : Ring) (r : ℕ) (some : 0 < length (weights_of ring)) (few : length (weights_of ring) ≤ 8)
    (positive : ArePositive (weights_of ring)) (es : List (Key 8 × ℕ))
    (keys : All (λ e. IsKeyOf (weights_of ring) r e.0) es) where
  abbrev pub shares : (Key 8 → ℕ) → ℕ → ℕ
  shares f = share_at (weights_of ring) r es f

  pub places_none : (n : ℕ) → n ≡ size r (weights_of ring) → ArePlacesFrom ring r es n []
  places_none n e = record {
    terms = no_terms ring r;
    totals = λ f. ap (λ t. t % modulus_of ring)
        (let w = all_places (weights_of ring) r some few positive f es keys in
        let s : sum_below n (shares f) ≡ sum_below (size r (weights_of ring)) (shares f) =
        ap (λ k. sum_below k (shares f)) e in omega arith);
    before = λ i d lt. absurd (omega arith);
  }

  pub places_skip : (n : ℕ) (ts : List Term) → key_at r (weights_of ring) n ≡ None →
      ArePlacesFrom ring r es (suc n) ts → ArePlacesFrom ring r es n ts
  places_skip n ts none h = record {
    terms = h.terms;
    totals = λ f. ap (λ k. (terms_total f ts + k) % modulus_of ring)
        (let z : shares f n ≡ 0 = ap (λ o. total (at_key_of o) es * at_place f o) none ∙
        nought (total (at_key_of None) es) in omega arith) ∙ h.totals f;
    before = λ i d lt j k. h.before i d lt j (omega arith);
  }
    where
      nought : (k : ℕ) → k * 0 ≡ 0
      nought k = omega arith

  pub places_push : (n : ℕ) (ts : List Term) (t : Term) → n < size r (weights_of ring) →
      key_at r (weights_of ring) n ≡ Some (key_of t.monomial) →
      IsEntryOf (modulus_of ring) (weights_of ring) r (entry_of t) →
      t.coefficient % modulus_of ring ≡ total (indicator (key_of t.monomial)) es % modulus_of ring →
      ArePlacesFrom ring r es (suc n) ts → ArePlacesFrom ring r es n (ts ++ unless_zero t)
  places_push n ts t lt key entry value h =
      built_push ring r (λ f. total f es) (λ f. sum_below (suc n) (shares f)) (λ f. sum_below n (shares f))
      (IsBeforePlaces (weights_of ring) r (suc n)) (IsBeforePlaces (weights_of ring) r n) ts t h entry
      (λ f. step f) (λ k before. before n (omega arith) (key_of t.monomial) key)
      (λ k before j l. before j (omega arith))
      (λ j l z is. falls (size r (weights_of ring)) r (weights_of ring) few n j l lt (key_of t.monomial) z key is)
    where
      step : (f : Key 8 → ℕ) → (t.coefficient * f (key_of t.monomial) + sum_below n (shares f)) % modulus_of ring
          ≡ (sum_below n (shares f) + shares f n) % modulus_of ring
      step f = plus-mod (modulus_of ring) _ (shares f n) _ (sum_below n (shares f))
          (times-mod (modulus_of ring) _ _ (f (key_of t.monomial)) (f (key_of t.monomial)) value refl ∙
          ap (λ k. k % modulus_of ring) (ap (λ o. total (at_key_of o) es * at_place f o) (sym key))) refl ∙
          ap (λ k. k % modulus_of ring) (omega arith)

  pub places_all : (n : ℕ) (ts : List Term) → n ≡ 0 → ArePlacesFrom ring r es n ts → IsTotal ring r es ts
  places_all n ts e h = built_whole ring r es (λ f. total f es) (λ f. sum_below n (shares f))
      (IsBeforePlaces (weights_of ring) r n) ts h (λ f. ap (λ k. sum_below k (shares f)) e) (λ f. refl)
