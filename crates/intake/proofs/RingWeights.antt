-- The weights of a ring, copied one after another into a list of ones.
use Rattle.std.proofs.Common.{◌≡◌, ◌≢◌, ℕ, ◌+◌, ◌-◌, ◌<◌, ◌≤◌, ◌⊎◌, inl, inr, List, length, drop, replicate, get_or}
use Rattle.std.proofs.Common.{set}
use Rattle.std.proofs.Common.{sym, ◌∙◌, ap, arith}
use Rattle.std.specs.List.{All}
use Rattle.std.proofs.lemmas.Bool.{cases_lt}
use Rattle.std.proofs.lemmas.Grind.{same_number_lists}
use Rattle.std.proofs.lemmas.List.{get_or-set_same, get_or-set_other, length-set, get_or-drop}
use Rattle.std.proofs.lemmas.List.{get_or-replicate, length-drop}
use Rattle.std.proofs.lemmas.List.Elements.{All-get_or}

-- the first i weights are copied
pub record Copied (ws now : List ℕ) (i : ℕ) : Type 0 where
  pub long : length now ≡ 8
  pub below : (j : ℕ) → j < i → get_or now j 0 ≡ get_or ws j 0
  pub above : (j : ℕ) → i ≤ j → j < 8 → get_or now j 0 ≡ 1

pub copied_none : (ws now : List ℕ) → now ≡ replicate 8 1 → length now ≡ 8 → Copied ws now 0
copied_none ws now ones long = record {
  long = long;
  below = λ j lt. absurd (omega arith);
  above = λ j le lt. ap (λ l. get_or l j 0) ones ∙ get_or-replicate 8 j 1 0 lt;
}

pub copied_more : (ws now : List ℕ) (i w : ℕ) → i < 8 → w ≡ get_or ws i 0 → Copied ws now i
    → Copied ws (set now i w) (i + 1)
copied_more ws now i w lt is h = record {
  long = length-set now i w ∙ h.long;
  below = λ j less. elim (cases_lt j i) [
    | inl before ↦ get_or-set_other now i j w 0 (other j before) ∙ h.below j before
    | inr le ↦ ap (λ k. get_or (set now i w) k 0) (same j less le)
        ∙ get_or-set_same now i w 0 (inside (length now) h.long) ∙ is ∙ ap (λ k. get_or ws k 0) (sym (same j less le))
  ];
  above = λ j le less. get_or-set_other now i j w 0 (later j le) ∙ h.above j (omega arith) less;
}
  where
    other : (j : ℕ) → j < i → j ≢ i
    other j less e = omega arith

    later : (j : ℕ) → i + 1 ≤ j → j ≢ i
    later j le e = omega arith

    same : (j : ℕ) → j < i + 1 → i ≤ j → j ≡ i
    same j less le = omega arith

    inside : (n : ℕ) → n ≡ 8 → i < n
    inside n e = omega arith

pub copied_all : (ws now : List ℕ) (n i : ℕ) → length ws ≡ 8 → All (λ w. w ≡ 1) (drop n ws) → n ≤ i → Copied ws now i
    → now ≡ ws
copied_all ws now n i eight past all h = same_number_lists now ws (h.long ∙ sym eight) (λ k lt. elim (cases_lt k i) [
  | inl less ↦ h.below k less
  | inr le ↦ h.above k le (inside (length now) k h.long lt)
      ∙ sym (one_at k (later k le) (inside (length now) k h.long lt))
])
  where
    inside : (m k : ℕ) → m ≡ 8 → k < m → k < 8
    inside m k e lt = omega arith

    later : (k : ℕ) → i ≤ k → n ≤ k
    later k le = omega arith

    back : (k : ℕ) → n ≤ k → n + (k - n) ≡ k
    back k le = omega arith

    left : (m k l : ℕ) → m ≡ 8 → l ≡ m - n → n ≤ k → k < 8 → k - n < l
    left m k l e f le lt = omega arith

    one_at : (k : ℕ) → n ≤ k → k < 8 → get_or ws k 0 ≡ 1
    one_at k le lt = ap (λ j. get_or ws j 0) (sym (back k le)) ∙ sym (get_or-drop n ws (k - n) 0)
        ∙ All-get_or (λ w. w ≡ 1) (drop n ws) (k - n) 0
        (left (length ws) k (length (drop n ws)) eight (length-drop n ws) le lt) past
