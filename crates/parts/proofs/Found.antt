-- What a search in a list of terms finds.
use Rattle.std.proofs.Common.{◌≡◌, ℕ, zero, suc, ◌+◌, ◌<◌, ◌≤◌, false, cond, T, List, [], ◌∷◌, length, get_or, map}
use Rattle.std.proofs.Common.{refl, sym, ◌∙◌, ap, subst, arith}
use Rattle.std.specs.Prelude.{Some, None}
use Rattle.std.specs.Ordering.{eq_by_cmp, is_eq, ordering_reverse}
use Rattle.std.specs.declared.cmp.Ordering.TheVariants.{Less, Equal, Greater}
use Rattle.std.specs.FinMap.{find, is_sorted}
use Rattle.std.specs.Cmp.{tied_itself}
use Rattle.std.proofs.Common.{inl, inr}
use Rattle.std.proofs.lemmas.Bool.{cases_lt}
use Rattle.std.proofs.lemmas.List.{get_or_default}
use Rattle.ps_model.specs.Keys.{Key, key_compare}
use Rattle.ps_model.specs.KeyLaws.{key_compare_total, key_compare-IsAntisymmetric}
use Rattle.ps_model.proofs.Maps.{first_part, second_part}
use Rattle.parts.specs.declared.terms.Term.{Term}
use Rattle.parts.specs.Terms.{key_of, entry_of}
use Rattle.parts.proofs.Built.{before_all}

abbrev pub key_at_place : List Term → ℕ → Term → Key 8
key_at_place ts i d = key_of (get_or ts i d).monomial

pub in_order_at : (ts : List Term) (i j : ℕ) (d : Term) → T (is_sorted (key_compare 8) (map entry_of ts)) → i < j →
    j < length ts → key_compare 8 (key_at_place ts i d) (key_at_place ts j d) ≡ Less
in_order_at [] i j d h lt at = absurd (omega arith)
in_order_at (t ∷ ts) i zero d h lt at = absurd (omega arith)
in_order_at (t ∷ ts) zero (suc j) d h lt at = before_all (key_of t.monomial) ts (first_part _ _ h) j d (omega arith)
in_order_at (t ∷ ts) (suc i) (suc j) d h lt at = in_order_at ts i j d (second_part _ _ h) (omega arith) (omega arith)

pub turned : (k l : Key 8) → key_compare 8 k l ≡ Less → key_compare 8 l k ≡ Greater
turned k l lt = (key_compare_total 8).antisymm l k ∙ ap ordering_reverse lt

pub turned_back : (k l : Key 8) → key_compare 8 k l ≡ Greater → key_compare 8 l k ≡ Less
turned_back k l gt = (key_compare_total 8).antisymm l k ∙ ap ordering_reverse gt

pub found_at : (q : Key 8) (ts : List Term) (i : ℕ) (d : Term) → T (is_sorted (key_compare 8) (map entry_of ts)) →
    i < length ts → key_compare 8 (key_at_place ts i d) q ≡ Equal →
    find (key_compare 8) q (map entry_of ts) ≡ Some (get_or ts i d).coefficient
found_at q [] i d h lt is = absurd (omega arith)
found_at q (t ∷ ts) zero d h lt is =
    ap (λ b. cond b (Some t.coefficient) (find (key_compare 8) q (map entry_of ts)))
    (ap is_eq (subst (λ l. key_compare 8 q l ≡ Equal)
    (sym (key_compare-IsAntisymmetric 8 (key_of t.monomial) q is)) (tied_itself (key_compare_total 8) q)))
found_at q (t ∷ ts) (suc i) d h lt is =
    ap (λ b. cond b (Some t.coefficient) (find (key_compare 8) q (map entry_of ts)))
    (ap is_eq (turned (key_of t.monomial) q below)) ∙ found_at q ts i d (second_part _ _ h) (omega arith) is
  where
    below : key_compare 8 (key_of t.monomial) q ≡ Less
    below = subst (λ l. key_compare 8 (key_of t.monomial) l ≡ Less)
        (key_compare-IsAntisymmetric 8 (key_at_place ts i d) q is)
        (before_all (key_of t.monomial) ts (first_part _ _ h) i d (omega arith))

pub found_nowhere : (q : Key 8) (ts : List Term) →
    ((i : ℕ) (d : Term) → i < length ts → eq_by_cmp (key_compare 8) q (key_at_place ts i d) ≡ false) →
    find (key_compare 8) q (map entry_of ts) ≡ None
found_nowhere q [] h = refl
found_nowhere q (t ∷ ts) h =
    ap (λ b. cond b (Some t.coefficient) (find (key_compare 8) q (map entry_of ts))) (h 0 t (omega arith)) ∙
    found_nowhere q ts (λ i d lt. h (suc i) d (omega arith))

-- what a half-way look says of all terms up to it, or from it on
module _ (q : Key 8) (ts : List Term) (middle : ℕ) (x : Term) (h : T (is_sorted (key_compare 8) (map entry_of ts)))
    (inside : middle < length ts) where
  pub all_below : key_compare 8 (key_at_place ts middle x) q ≡ Less → (k : ℕ) (d : Term) → k < middle + 1 →
      key_compare 8 (key_at_place ts k d) q ≡ Less
  all_below is k d lt = elim (cases_lt k middle) [
    | inl l ↦ (key_compare_total 8).trans (key_at_place ts k d) (key_at_place ts middle d) q
        (in_order_at ts k middle d h l inside)
        (subst (λ t. key_compare 8 (key_of t.monomial) q ≡ Less) (get_or_default ts middle x d inside) is)
    | inr g ↦ subst (λ i. key_compare 8 (key_at_place ts i d) q ≡ Less) (let e : middle ≡ k = omega arith in
        e) (subst (λ t. key_compare 8 (key_of t.monomial) q ≡ Less) (get_or_default ts middle x d inside) is)
  ]

  pub all_above : key_compare 8 (key_at_place ts middle x) q ≡ Greater → (k : ℕ) (d : Term) → middle ≤ k →
      k < length ts → key_compare 8 (key_at_place ts k d) q ≡ Greater
  all_above is k d le lt = elim (cases_lt middle k) [
    | inl l ↦ turned q (key_at_place ts k d)
        ((key_compare_total 8).trans q (key_at_place ts middle d) (key_at_place ts k d)
        (turned_back (key_at_place ts middle d) q
        (subst (λ t. key_compare 8 (key_of t.monomial) q ≡ Greater) (get_or_default ts middle x d inside) is))
        (in_order_at ts middle k d h l lt))
    | inr g ↦ subst (λ i. key_compare 8 (key_at_place ts i d) q ≡ Greater) (let e : middle ≡ k = omega arith in
        e) (subst (λ t. key_compare 8 (key_of t.monomial) q ≡ Greater) (get_or_default ts middle x d inside) is)
  ]

-- nothing is between those before the key and those behind it
pub searched : (q : Key 8) (ts : List Term) (low high : ℕ) → high ≤ low
    → ((k : ℕ) (d : Term) → k < low → key_compare 8 (key_at_place ts k d) q ≡ Less)
    → ((k : ℕ) (d : Term) → high ≤ k → k < length ts → key_compare 8 (key_at_place ts k d) q ≡ Greater)
    → find (key_compare 8) q (map entry_of ts) ≡ None
searched q ts low high le below above = found_nowhere q ts (λ i d lt. elim (cases_lt i low) [
  | inl l ↦ ap is_eq (turned (key_at_place ts i d) q (below i d l))
  | inr g ↦ ap is_eq (turned_back (key_at_place ts i d) q (above i d (omega arith) lt))
])
