-- One more variable in counts by degree: from its weight on, each gains the new one that stands lower by that weight.
use Rattle.std.proofs.Common.{◌≡◌, ℕ, zero, suc, ◌+◌, ◌-◌, ◌*◌, ◌^◌, ◌<◌, ◌≤◌, List, length, get_or, refl, sym, ◌∙◌}
use Rattle.std.proofs.Common.{subst, arith}
use Rattle.std.proofs.Common.{inl, inr}
use Rattle.std.proofs.Math.ListN.{set}
use Rattle.std.proofs.lemmas.Bool.{cases_lt}
use Rattle.std.proofs.lemmas.Grind.{get_or-set_at}
use Rattle.std.proofs.lemmas.List.{get_or-set_other}
use Rattle.parts.specs.Counting.{AreCounts, AddsVariable}

-- below degree d the counts are the new ones, and the old ones from d on
pub record IsAdded (w D : ℕ) (old new : List ℕ) (d : ℕ) : Type 0 where
  pub below : (k : ℕ) → k < w → k ≤ D → get_or new k 0 ≡ get_or old k 0
  pub from : (k : ℕ) → w ≤ k → k < d → k ≤ D → get_or new k 0 ≡ get_or old k 0 + get_or new (k - w) 0
  pub rest : (k : ℕ) → d ≤ k → get_or new k 0 ≡ get_or old k 0
  pub small : (k : ℕ) → k < d → k ≤ D → get_or new k 0 ≤ suc k * 2 ^ 96

pub added_none : (w D : ℕ) (old : List ℕ) → ((k : ℕ) → k ≤ D → get_or old k 0 ≤ 2 ^ 96) → IsAdded w D old old w
added_none w D old small = record {
  below = λ k lt le. refl;
  from = λ k ge lt le. absurd (omega arith);
  rest = λ k le. refl;
  small = λ k lt le. omega (arith, small k le);
}

module _ (w D : ℕ) (old new : List ℕ) (d n : ℕ) (some : 0 < w) (past : w ≤ d) (le : d ≤ D) (long : d < length new)
    (small : (k : ℕ) → k ≤ D → get_or old k 0 ≤ 2 ^ 96) (h : IsAdded w D old new d) where
  pub added_fits : D ≤ 4095 → get_or new d 0 + get_or new (d - w) 0 < 2 ^ 128
  added_fits low = let p = h.rest d (omega arith) in
      omega (arith, small d le, h.small (d - w) (omega arith) (omega arith))

  other : (k : ℕ) → k < d → get_or (set new d n) k 0 ≡ get_or new k 0
  other k lt = get_or-set_other new d k n 0 (omega arith)

  pub added_more : n ≡ get_or new d 0 + get_or new (d - w) 0 → IsAdded w D old (set new d n) (d + 1)
  added_more is = record {
    below = λ k lt most. other k (omega arith) ∙ h.below k lt most;
    from = λ k ge lt most. elim (cases_lt k d) [
      | inl l ↦ let a = other k l in let b = other (k - w) (omega arith) in let c = h.from k ge l most in omega arith
      | inr g ↦ let same : k ≡ d = omega arith in
          subst (λ j. get_or (set new d n) j 0 ≡ get_or old j 0 + get_or (set new d n) (j - w) 0) (sym same) last
    ];
    rest = λ k from. get_or-set_other new d k n 0 (omega arith) ∙ h.rest k (omega arith);
    small = λ k lt most. elim (cases_lt k d) [
      | inl l ↦ let a = other k l in let b = h.small k l most in omega arith
      | inr g ↦ let same : k ≡ d = omega arith in
          subst (λ j. get_or (set new d n) j 0 ≤ suc j * 2 ^ 96) (sym same) top
    ];
  }
    where
      here : get_or (set new d n) d 0 ≡ n
      here = get_or-set_at new d d n 0 refl long

      last : get_or (set new d n) d 0 ≡ get_or old d 0 + get_or (set new d n) (d - w) 0
      last = let a = here in let b = other (d - w) (omega arith) in let c = h.rest d (omega arith) in omega (arith, is)

      top : get_or (set new d n) d 0 ≤ suc d * 2 ^ 96
      top = let a = here in let b = h.small (d - w) (omega arith) (omega arith) in let c = h.rest d (omega arith) in
          omega (arith, is, small d le)

pub added_all : (w D : ℕ) (old new : List ℕ) (d : ℕ) → D < d → IsAdded w D old new d → AddsVariable w D old new
added_all w D old new d past h = record {
  below = h.below;
  from = λ k ge le. h.from k ge (omega arith) le;
}

-- numbers with the same recurrence are counted by the new counts
pub added_counts : (w D : ℕ) (old new : List ℕ) (f g : ℕ → ℕ) → 0 < w → ((d : ℕ) → d < w → g d ≡ f d) →
    ((d : ℕ) → w ≤ d → g d ≡ f d + g (d - w)) → AddsVariable w D old new → AreCounts f D old → AreCounts g D new
added_counts w D old new f g some below from adds are d le = up_to (suc d) d (omega arith) le
  where
    up_to : (n k : ℕ) → k < n → k ≤ D → get_or new k 0 ≡ g k
    up_to zero k lt most = absurd (omega arith)
    up_to (suc n) k lt most = elim (cases_lt k w) [
      | inl l ↦ adds.below k l most ∙ are k most ∙ sym (below k l)
      | inr ge ↦ let a = adds.from k (omega arith) most in let b = from k (omega arith) in let c = are k most in
          let e = up_to n (k - w) (omega arith) (omega arith) in omega arith
    ]
