-- Linear forms at a product of series: what one of one degree sees of it.
use Rattle.std.proofs.Common.{◌≡◌, ℕ, zero, suc, ◌+◌, ◌-◌, ◌<◌, ◌≤◌, inl, inr, List, [], ◌∷◌, length}
use Rattle.std.proofs.Common.{get_or, cond, All, refl, sym, ◌∙◌, ap, subst, add_comm, arith}
use Rattle.std.specs.Prelude.{nat_le}
use Rattle.std.proofs.Math.ListN.{get_or-eq_default}
use Rattle.std.proofs.lemmas.Bool.{cases_lt, le-leb, lt-leb}
use Rattle.std.specs.FinMap.{entries}
use Rattle.ps_model.specs.Keys.{Key, key_compare, add_keys}
use Rattle.ps_model.specs.Sums.{total}
use Rattle.ps_model.proofs.Totals.{total-append, total-zero, total-plus}
use Rattle.residue.specs.Products.{sum_below}
use Rattle.residue.proofs.Products.{sum_below-same, sum_below-zero}
use Rattle.parts.specs.Terms.{IsKeyOf}
use Rattle.parts.specs.PartValue.{PartValue}
use Rattle.parts.specs.Rings.{weights_of}
use Rattle.parts.specs.RowsOfParts.{nothing}
use Rattle.parts.specs.SeriesParts.{AreSeriesParts}
use Rattle.parts.specs.CrossedEntries.{entries_at}
use Rattle.parts.specs.SeriesRows.{all_entries, crossed_total, indicator}
use Rattle.parts.specs.declared.rings.Ring.{Ring}
use Rattle.parts.proofs.Collected.{IsKeyOf-add}
use Rattle.parts.proofs.Gained.{none_listed}
use Rattle.parts.proofs.Indicators.{total-none, indicator-other}
use Rattle.parts.proofs.PairSums.{sum_below-one, sum_below-past}

pub sum_below-first : (n : ℕ) (f : ℕ → ℕ) → sum_below (suc n) f ≡ f 0 + sum_below n (λ i. f (suc i))
sum_below-first zero f = omega arith
sum_below-first (suc n) f = omega (arith, sum_below-first n f)

pub total-all : (g : Key 8 → ℕ) (ps : List PartValue) →
    total g (all_entries ps) ≡ sum_below (length ps) (λ s. total g (entries_at ps s))
total-all g [] = refl
total-all g (p ∷ ps) = total-append g (entries p.map) (all_entries ps) ∙
    ap (λ n. total g (entries p.map) + n) (total-all g ps) ∙
    sym (sum_below-first (length ps) (λ s. total g (entries_at (p ∷ ps) s)))

total-below : {K : Type 0} (n : ℕ) (h : ℕ → K → ℕ) (es : List (K × ℕ)) →
    total (λ x. sum_below n (λ t. h t x)) es ≡ sum_below n (λ t. total (h t) es)
total-below zero h es = total-zero es
total-below (suc n) h es = total-plus (λ x. sum_below n (λ t. h t x)) (h n) es ∙
    ap (λ k. k + total (h n) es) (total-below n h es)

-- a double sum in which the numbers of one pair of places at most count, for each first one
pub diagonal : (F : ℕ → ℕ → ℕ) (m n r : ℕ) → ((s t : ℕ) → s < m → t < n → (s + t ≡ r → ⊥) → F s t ≡ 0) →
    ((s t : ℕ) → m ≤ s → F s t ≡ 0) → ((s t : ℕ) → n ≤ t → F s t ≡ 0) →
    sum_below m (λ s. sum_below n (F s)) ≡ sum_below (suc r) (λ s. F s (r - s))
diagonal F m n r off past_m past_n =
    sum_below-same m _ G row ∙ sym (sum_below-past m (suc r) G beyond) ∙
    ap (λ k. sum_below k G) (add_comm m (suc r)) ∙ sum_below-past (suc r) m G (λ i le. above i (omega arith)) ∙
    sum_below-same (suc r) G _ (λ s lt. within s (omega arith))
  where
    G : ℕ → ℕ
    G s = cond (nat_le s r) (F s (r - s)) 0

    within : (s : ℕ) → s ≤ r → G s ≡ F s (r - s)
    within s le = ap (λ b. cond b (F s (r - s)) 0) (le-leb s r le)

    above : (s : ℕ) → r < s → G s ≡ 0
    above s lt = ap (λ b. cond b (F s (r - s)) 0) (lt-leb s r lt)

    beyond : (s : ℕ) → m ≤ s → G s ≡ 0
    beyond s le = elim (cases_lt r s) [
      | inl l ↦ above s l
      | inr g ↦ within s g ∙ past_m s (r - s) le
    ]

    row : (s : ℕ) → s < m → sum_below n (F s) ≡ G s
    row s lt = elim (cases_lt r s) [
      | inl l ↦ sum_below-zero n (F s) (λ t k. off s t lt k (λ e. omega arith)) ∙ sym (above s l)
      | inr g ↦ elim (cases_lt (r - s) n) [
        | inl k ↦ sum_below-one n (r - s) (F s) k (λ t b ne. off s t lt b (λ e. ne (omega arith))) ∙ sym (within s g)
        | inr k ↦ sum_below-zero n (F s) (λ t b. off s t lt b (λ e. omega arith)) ∙
            sym (within s g ∙ past_n s (r - s) k)
      ]
    ]

pub entries_past : (ps : List PartValue) (s : ℕ) → length ps ≤ s → entries_at ps s ≡ []
entries_past ps s le = ap (λ (p : PartValue). entries p.map) (get_or-eq_default ps nothing le) ∙ none_listed

-- a form that is 0 at all keys of other degrees
abbrev pub IsOfDegree : List ℕ → ℕ → (Key 8 → ℕ) → Type 0
IsOfDegree ws r g = (d : ℕ) (k : Key 8) → IsKeyOf ws d k → (d ≡ r → ⊥) → g k ≡ 0

pub indicator-degree : (ws : List ℕ) (r : ℕ) (z : Key 8) → IsKeyOf ws r z → IsOfDegree ws r (indicator z)
indicator-degree ws r z is d k at ne =
    indicator-other z k (λ e. ne (sym (subst (λ (y : Key 8). IsKeyOf ws d y) (sym e) at).weighs ∙ is.weighs))

module _ (ring : Ring) (a w : List PartValue) (a_are : AreSeriesParts ring a) (w_are : AreSeriesParts ring w)
    (r : ℕ) (g : Key 8 → ℕ) (of_degree : IsOfDegree (weights_of ring) r g) where
  -- what two parts give
  abbrev pub crossed_at : ℕ → ℕ → ℕ
  crossed_at s t = total (λ x. total (λ y. g (add_keys 8 x y)) (entries_at w t)) (entries_at a s)

  keys_at : (ps : List PartValue) → AreSeriesParts ring ps → (s : ℕ) → s < length ps →
      All (λ e. IsKeyOf (weights_of ring) s e.0) (entries_at ps s)
  keys_at ps are s lt i d k =
      subst (λ n. IsKeyOf (weights_of ring) n (get_or (entries_at ps s) i d).0) (are s lt).0 ((are s lt).1 i d k).0

  off : (s t : ℕ) → s < length a → t < length w → (s + t ≡ r → ⊥) → crossed_at s t ≡ 0
  off s t lt k ne = total-none _ (entries_at a s) (λ i d m. total-none _ (entries_at w t) (λ j e n.
      of_degree (s + t) _ (IsKeyOf-add (weights_of ring) s t _ _ (keys_at a a_are s lt i d m)
      (keys_at w w_are t k j e n)) ne))

  pub crossed-total : crossed_total g a w ≡ sum_below (suc r) (λ s. crossed_at s (r - s))
  crossed-total = total-all (λ x. total (λ y. g (add_keys 8 x y)) (all_entries w)) a ∙
      sum_below-same (length a) _ (λ s. sum_below (length w) (crossed_at s)) (λ s _.
      (λ i. total (λ x. total-all (λ y. g (add_keys 8 x y)) w i) (entries_at a s)) ∙
      total-below (length w) (λ t x. total (λ y. g (add_keys 8 x y)) (entries_at w t)) (entries_at a s))
      ∙ diagonal crossed_at (length a) (length w) r off
      (λ s t le. ap (λ es. total (λ x. total (λ y. g (add_keys 8 x y)) (entries_at w t)) es) (entries_past a s le))
      (λ s t le. (λ i. total (λ x. total (λ y. g (add_keys 8 x y)) (entries_past w t le i)) (entries_at a s)) ∙
      total-zero (entries_at a s))
