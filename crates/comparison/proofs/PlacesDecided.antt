-- Two polynomials are equal, or differ in one slice first.
use Rattle.std.proofs.Common.{◌≡◌, ℕ, zero, suc, ◌<◌, ◌≤◌, ◌⊎◌, inl, inr, Bool, true, false, cond, List, [], ◌∷◌}
use Rattle.std.proofs.Common.{Option, Some, None, get_or, drop, max, refl, sym, ◌∙◌, ap, subst, arith}
use Rattle.std.specs.Option.{unwrap_or}
use Rattle.std.specs.FinMap.{get, find, get-entries}
use Rattle.std.specs.Ordering.{eq_by_cmp}
use Rattle.std.proofs.lemmas.Bool.{cases_order}
use Rattle.std.proofs.lemmas.Bool.Decides.{eqb_tells}
use Rattle.ps_model.specs.Bounds.{HasNoDegreeAbove, HasNoPowerAbove}
use Rattle.ps_model.specs.Polynomial.{Polynomial, terms, coefficient}
use Rattle.ps_model.specs.Ring.{Ring}
use Rattle.ps_model.specs.SeriesRing.{SeriesRing, ring, Poly}
use Rattle.ps_model.specs.Slices.{slice_at}
use Rattle.ps_model.specs.Truncation.{truncated}
use Rattle.ps_model.proofs.Coefficients.{tie, itself, same_coefficients}
use Rattle.ps_model.proofs.Origin.{none_above_is}
use Rattle.ps_model.proofs.PowerBounds.{bound-more}
use Rattle.comparison.specs.Differences.{IsFirstIn}
use Rattle.comparison.proofs.FirstSlices.{SameAt, SameFrom, first_is, same_above, same_more, same_all}

module _ (R : Ring) where
  entry_decided : (e f : R.Key × ℕ) → (e ≡ f) ⊎ (e ≡ f → ⊥)
  entry_decided e f = elim (eqb_tells e.1 f.1) [
    | inr other ↦ inr (λ same. other.1 (ap (λ x. x.1) same))
    | inl number ↦ elim (eq_by_cmp R.compare e.0 f.0) as
        (λ b. eq_by_cmp R.compare e.0 f.0 ≡ b → (e ≡ f) ⊎ (e ≡ f → ⊥)) [
          | true ↦ λ is. inl (λ i. (tie R.compare R.total_order R.antisymmetric e.0 f.0 is i, number.1 i))
          | false ↦ λ is. inr (λ same. apart (sym (itself R.compare R.total_order R.antisymmetric e.0)
              ∙ ap (λ (x : R.Key × ℕ). eq_by_cmp R.compare e.0 x.0) same ∙ is))
        ] refl
  ]
    where
      apart : true ≡ false → ⊥
      apart e = cc

  lists_decided : (es fs : List (R.Key × ℕ)) → (es ≡ fs) ⊎ (es ≡ fs → ⊥)
  lists_decided [] [] = inl refl
  lists_decided [] (f ∷ fs) = inr (λ e. absurd (cc))
  lists_decided (e ∷ es) [] = inr (λ e. absurd (cc))
  lists_decided (e ∷ es) (f ∷ fs) = elim (entry_decided e f) [
    | inr other ↦ inr (λ same. other (ap (λ l. get_or l 0 e) same))
    | inl here ↦ elim (lists_decided es fs) [
      | inr other ↦ inr (λ same. other (ap (drop 1) same))
      | inl later ↦ inl (λ i. here i ∷ later i)
    ]
  ]

  -- by their terms
  pub polynomial_decided : (p q : Polynomial R) → (p ≡ q) ⊎ (p ≡ q → ⊥)
  polynomial_decided p q = elim (lists_decided (terms R p) (terms R q)) [
    | inl same ↦ inl (same_coefficients R p q (λ k. ap (λ o. unwrap_or o 0)
        (get-entries p.map k ∙ ap (find R.compare k) same ∙ sym (get-entries q.map k))))
    | inr other ↦ inr (λ same. other (ap (terms R) same))
  ]

  -- the greatest degree of terms
  abbrev top : (R.Key → ℕ) → List (R.Key × ℕ) → ℕ
  top d [] = 0
  top d (e ∷ es) = max (d e.0) (top d es)

  found_low : (d : R.Key → ℕ) (k : R.Key) (c : ℕ) (es : List (R.Key × ℕ)) → find R.compare k es ≡ Some c
      → d k ≤ top d es
  found_low d k c [] is = absurd (cc)
  found_low d k c (e ∷ es) is = at (eq_by_cmp R.compare k e.0) refl is (found_low d k c es)
    where
      at : (b : Bool) → eq_by_cmp R.compare k e.0 ≡ b → cond b (Some e.1) (find R.compare k es) ≡ Some c
          → (find R.compare k es ≡ Some c → d k ≤ top d es) → d k ≤ max (d e.0) (top d es)
      at true same is later = omega (arith, ap d (tie R.compare R.total_order R.antisymmetric k e.0 same))
      at false same is later = omega (arith, later is)

  bounded : (d : R.Key → ℕ) (p : Polynomial R) → truncated R d (top d (terms R p)) p ≡ p
  bounded d p = none_above_is R d (top d (terms R p)) p (λ k high. absent k (get p.map k) refl high)
    where
      absent : (k : R.Key) (o : Option ℕ) → get p.map k ≡ o → top d (terms R p) < d k → coefficient R p k ≡ 0
      absent k None e high = ap (λ o. unwrap_or o 0) e
      absent k (Some c) e high =
          let low = found_low d k c (terms R p) (sym (get-entries p.map k) ∙ e) in absurd (omega arith)

  -- two polynomials have one bound
  pub both_bounded : (d : R.Key → ℕ) (p q : Polynomial R)
      → (B : ℕ) × (truncated R d B p ≡ p) × (truncated R d B q ≡ q)
  both_bounded d p q =
      let a = top d (terms R p) in
      let b = top d (terms R q) in (
        max a b,
        bound-more R d a (max a b) p (omega arith) (bounded d p),
        bound-more R d b (max a b) q (omega arith) (bounded d q),
      )

module _ (S : SeriesRing) (p q : Poly S) where
  abbrev Same : ℕ → ℕ → Type 0
  Same = SameAt S p q

  -- the least degree below n at which they differ at Y^j
  least_at : (j n : ℕ) → ((r : ℕ) × (Same j r → ⊥) × ((s : ℕ) → s < r → Same j s)) ⊎ ((s : ℕ) → s < n → Same j s)
  least_at j zero = inr (λ s lt. absurd (omega arith))
  least_at j (suc n) = elim (least_at j n) [
    | inl found ↦ inl found
    | inr same ↦ elim (polynomial_decided (ring S) (slice_at (ring S) n j p) (slice_at (ring S) n j q)) [
      | inr differs ↦ inl (n, differs, same)
      | inl here ↦ inr (λ s lt. elim (cases_order s n) [
        | inl e ↦ subst (Same j) (sym e) here
        | inr d ↦ elim d [
          | inl lower ↦ same s lower
          | inr higher ↦ absurd (omega arith)
        ]
      ])
    ]
  ]

  module _ (K D : ℕ) (hp : HasNoPowerAbove K p) (hq : HasNoPowerAbove K q) (dp : HasNoDegreeAbove D p)
      (dq : HasNoDegreeAbove D q) where
    abbrev more : (j : ℕ) → SameFrom S p q (suc j) → ((s : ℕ) → s < suc D → Same j s) → SameFrom S p q j
    more j above here = same_more S p q K D hp hq dp dq j above (λ r le. here r (omega arith))

    below : (j : ℕ) → SameFrom S p q j → (p ≡ q) ⊎ ((h : ℕ) × (r : ℕ) × IsFirstIn S p q h r)
    below zero same = inl (same_all S p q K D hp hq dp dq same)
    below (suc j) same = elim (least_at j (suc D)) [
      | inl found ↦ inr (j, found.0, first_is S p q j found.0 same found.1 found.2)
      | inr here ↦ below j (more j same here)
    ]

    found_below : (p ≡ q) ⊎ ((h : ℕ) × (r : ℕ) × IsFirstIn S p q h r)
    found_below = below (suc K) (same_above S p q K D hp hq dp dq)

  pub slices_decided : (p ≡ q) ⊎ ((j : ℕ) × (r : ℕ) × IsFirstIn S p q j r)
  slices_decided =
      let K = both_bounded (ring S) (ring S).y_degree p q in
      let D = both_bounded (ring S) (ring S).degree p q in
      found_below K.0 D.0 K.1 K.2 D.1 D.2

  -- of polynomials without Y
  pub degrees_decided : HasNoPowerAbove 0 p → HasNoPowerAbove 0 q → (p ≡ q) ⊎ ((r : ℕ) × IsFirstIn S p q 0 r)
  degrees_decided hp hq =
      let D = both_bounded (ring S) (ring S).degree p q in
      let above = same_above S p q 0 D.0 hp hq D.1 D.2 in
      elim (least_at 0 (suc D.0)) [
        | inl found ↦ inr (found.0, first_is S p q 0 found.0 above found.1 found.2)
        | inr here ↦ inl (same_all S p q 0 D.0 hp hq D.1 D.2 (more 0 D.0 hp hq D.1 D.2 0 above here))
      ]
