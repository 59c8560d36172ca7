-- The first slice in which two polynomials differ, by falling power of Y and then by rising degree.
use Rattle.std.proofs.Common.{◌≡◌, ℕ, suc, ◌<◌, ◌≤◌, inl, inr, sym, ◌∙◌, subst, arith}
use Rattle.std.proofs.lemmas.Bool.{cases_order}
use Rattle.ps_model.specs.Bounds.{HasNoDegreeAbove, HasNoPowerAbove}
use Rattle.ps_model.specs.SeriesRing.{SeriesRing, ring, Poly}
use Rattle.ps_model.specs.Slices.{slice_at}
use Rattle.ps_model.proofs.Slices.{same_slices}
use Rattle.ps_model.proofs.SliceValues.{slice_at-above, slice_at-degree_above}
use Rattle.comparison.specs.Differences.{IsFirstIn}

module _ (S : SeriesRing) (p q : Poly S) where
  abbrev pub SameAt : ℕ → ℕ → Type 0
  SameAt j r = slice_at (ring S) r j p ≡ slice_at (ring S) r j q

  -- at Y^j and above
  abbrev pub SameFrom : ℕ → Type 0
  SameFrom j = (h s : ℕ) → j ≤ h → SameAt h s

  pub first_is : (j r : ℕ) → SameFrom (suc j) → (SameAt j r → ⊥) → ((s : ℕ) → s < r → SameAt j s) → IsFirstIn S p q j r
  first_is j r above differs lower = record {
    differs = differs;
    higher = λ h s lt. above h s (omega arith);
    lower = lower;
  }

  module _ (K D : ℕ) (hp : HasNoPowerAbove K p) (hq : HasNoPowerAbove K q) (dp : HasNoDegreeAbove D p)
      (dq : HasNoDegreeAbove D q) where
    pub same_above : SameFrom (suc K)
    same_above h s le =
        slice_at-above (ring S) K s h p hp (omega arith) ∙ sym (slice_at-above (ring S) K s h q hq (omega arith))

    high_degree : (j s : ℕ) → D < s → SameAt j s
    high_degree j s lt =
        slice_at-degree_above (ring S) D s j p dp lt ∙ sym (slice_at-degree_above (ring S) D s j q dq lt)

    pub same_more : (j : ℕ) → SameFrom (suc j) → ((r : ℕ) → r ≤ D → SameAt j r) → SameFrom j
    same_more j above here h s le = elim (cases_order h j) [
      | inl e ↦ subst (λ n. SameAt n s) (sym e) (elim (cases_order s D) [
        | inl e ↦ here s (omega arith)
        | inr d ↦ elim d [
          | inl lt ↦ here s (omega arith)
          | inr gt ↦ high_degree j s gt
        ]
      ])
      | inr d ↦ elim d [
        | inl lt ↦ absurd (omega arith)
        | inr gt ↦ above h s (omega arith)
      ]
    ]

    pub same_all : SameFrom 0 → p ≡ q
    same_all same = sym dp ∙ same_slices (ring S) D K p q hp hq (λ r j _ _. same j r (omega arith)) ∙ dq
