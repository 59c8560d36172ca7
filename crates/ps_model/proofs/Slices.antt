-- The laws of slices.
use Rattle.std.proofs.Common.{◌≡◌, ℕ, zero, suc, ◌-◌, ◌≤◌, Bool, true, false, cond, refl, sym, ◌∙◌, ap, arith}
use Rattle.std.specs.Prelude.{◌==◌}
use Rattle.std.proofs.Math.Dec.{leb}
use Rattle.std.proofs.Math.Nat.{one-mul}
use Rattle.std.proofs.lemmas.Bool.{eqb-true, le-leb}
use Rattle.ps_model.specs.Ring.{Ring}
use Rattle.ps_model.specs.Truncation.{truncated, homogeneous_part}
use Rattle.ps_model.specs.Polynomial.{Polynomial, monomial, sum, product, image, sum_to}
use Rattle.ps_model.specs.Bounds.{HasNoPowerAbove}
use Rattle.ps_model.specs.Slices.{without_y, slice_at}
use Rattle.ps_model.proofs.Coefficients.{linear_form, same_values}
use Rattle.ps_model.proofs.Values.{linear_form-image, linear_form-monomial, linear_form-mod, linear_form-kept_terms}
use Rattle.ps_model.proofs.RingLaws.{product-four}
use Rattle.ps_model.proofs.KeptTerms.{kept_terms-sum}
use Rattle.ps_model.proofs.Images.{image-sum, monomial-plus}
use Rattle.ps_model.proofs.Truncations.{homogeneous_part-sum, homogeneous_part-sum_to, homogeneous_part-product}
use Rattle.ps_model.proofs.Truncations.{sum_to-same, same_truncation}
use Rattle.ps_model.proofs.Below.{truncated-below, below-homogeneous_part}
use Rattle.ps_model.proofs.Division.{lower, down, y_power, down-up, multiple, linear_form-down}
use Rattle.ps_model.proofs.Existence.{homogeneous_part_y_degree}

module _ (R : Ring) where
  -- of entries with one power of Y
  pub without_y-down : (j : ℕ) (p : Polynomial R)
      → without_y R (homogeneous_part R R.y_degree j p) ≡ down R j (homogeneous_part R R.y_degree j p)
  unfolding without_y homogeneous_part lower
  without_y-down j p = same_values R _ _ (λ f. simp (linear_form-image, linear_form-monomial, one-mul)
      (linear_form-mod R _ _ ∙ linear_form-kept_terms R _ _ p
      ∙ (λ i. linear_form R (λ x. one_power f x (R.y_degree x == j) refl i) p)
      ∙ sym (linear_form-down R f j _ ∙ linear_form-kept_terms R _ _ p)))
    where
      unraised : (x : R.Key) → R.y_degree x ≡ j → lower R j x ≡ R.rest x
      unraised x is =
          let none : R.y_degree x - j ≡ 0 = omega arith in
          ap (λ n. R.◌⊕◌ (R.rest x) (R.y n)) none ∙ ap (R.◌⊕◌ (R.rest x)) R.y-zero ∙ R.plus-comm _ _ ∙ R.origin-plus _

      one_power : (f : R.Key → ℕ) (x : R.Key) (b : Bool) → (R.y_degree x == j) ≡ b
          → cond b (f (R.rest x)) 0 ≡ cond b (cond (leb j (R.y_degree x)) (f (lower R j x)) 0) 0
      one_power f x true e =
          sym (ap (λ b. cond b (f (lower R j x)) 0) (le-leb j _ (let is = eqb-true _ _ e in omega arith))
          ∙ ap f (unraised x (eqb-true _ _ e)))
      one_power f x false e = refl

  pub slice_at-down : (r j : ℕ) (p : Polynomial R) → slice_at R r j p
      ≡ down R j (homogeneous_part R R.y_degree j (homogeneous_part R R.degree r p))
  unfolding slice_at
  slice_at-down r j p = without_y-down j _

  pub down-sum : (k : ℕ) (p q : Polynomial R) → down R k (sum R p q) ≡ sum R (down R k p) (down R k q)
  unfolding down
  down-sum k p q = ap (image R _) (kept_terms-sum R _ p q) ∙ image-sum R _ _ _

  pub down-sum_to : (k n : ℕ) (f : ℕ → Polynomial R) → down R k (sum_to R n f) ≡ sum_to R n (λ s. down R k (f s))
  down-sum_to k zero f = refl
  down-sum_to k (suc n) f = down-sum k _ _ ∙ ap (λ p. sum R p (down R k (f (suc n)))) (down-sum_to k n f)

  pub slice_at-sum : (r j : ℕ) (p q : Polynomial R) → slice_at R r j (sum R p q) ≡ sum R (slice_at R r j p)
      (slice_at R r j q)
  slice_at-sum r j p q = slice_at-down r j _ ∙ ap (λ t. down R j (homogeneous_part R R.y_degree j t))
      (homogeneous_part-sum R R.degree r p q)
      ∙ ap (down R j) (homogeneous_part-sum R R.y_degree j _ _) ∙ down-sum j _ _
      ∙ λ i. sum R (sym (slice_at-down r j p) i) (sym (slice_at-down r j q) i)

  -- with its Y^j again
  pub up_slice_at : (r j : ℕ) (p : Polynomial R) → product R (y_power R j) (slice_at R r j p)
      ≡ homogeneous_part R R.y_degree j (homogeneous_part R R.degree r p)
  up_slice_at r j p = ap (product R (y_power R j)) (slice_at-down r j p)
      ∙ multiple R j _ (below-homogeneous_part R R.y_degree j j _ (omega arith))

  pair_slice : (i j : ℕ) → i ≤ j → (a b : Polynomial R)
      → down R j (product R (product R (y_power R i) a) (product R (y_power R (j - i)) b)) ≡ product R a b
  pair_slice i j le a b = ap (down R j) (product-four R _ a _ b ∙ ap (λ t. product R t (product R a b))
      (sym (monomial-plus R _ _) ∙ ap (monomial R 1) (sym (R.y-plus i (j - i)) ∙ ap R.y (omega arith)))) ∙ down-up R j _

  pub slice_at-product : (r j : ℕ) (p q : Polynomial R) → slice_at R r j (product R p q)
      ≡ sum_to R r (λ s. sum_to R j (λ i. product R (slice_at R s i p) (slice_at R (r - s) (j - i) q)))
  slice_at-product r j p q = slice_at-down r j (product R p q) ∙ ap (λ t. down R j (homogeneous_part R R.y_degree j t))
      (homogeneous_part-product R R.degree R.degree_adds r p q)
      ∙ ap (down R j) (homogeneous_part-sum_to R R.y_degree j r _) ∙ down-sum_to j r _
      ∙ sum_to-same R r _ _ (λ s _. at_y_degree s)
    where
      at_y_degree : (s : ℕ)
          → down R j (homogeneous_part R R.y_degree j
          (product R (homogeneous_part R R.degree s p) (homogeneous_part R R.degree (r - s) q)))
          ≡ sum_to R j (λ i. product R (slice_at R s i p) (slice_at R (r - s) (j - i) q))
      at_y_degree s = ap (down R j) (homogeneous_part-product R R.y_degree R.y_degree_adds j _ _) ∙ down-sum_to j j _
          ∙ sum_to-same R j _ _
          (λ i le. ap (down R j)
          (λ l. product R (sym (up_slice_at s i p) l) (sym (up_slice_at (r - s) (j - i) q) l))
          ∙ pair_slice i j le _ _)

  -- homogeneous parts of equal slices
  pub same_part : (r K : ℕ) (p q : Polynomial R) → HasNoPowerAbove K p → HasNoPowerAbove K q
      → ((j : ℕ) → j ≤ K → slice_at R r j p ≡ slice_at R r j q) → homogeneous_part R R.degree r p
      ≡ homogeneous_part R R.degree r q
  same_part r K p q hp hq same = sym (within p hp) ∙ same_truncation R R.y_degree K _ _
      (λ j le. sym (up_slice_at r j p) ∙ ap (product R (y_power R j)) (same j le) ∙ up_slice_at r j q) ∙ within q hq
    where
      within : (t : Polynomial R) → HasNoPowerAbove K t → truncated R R.y_degree K (homogeneous_part R R.degree r t)
          ≡ homogeneous_part R R.degree r t
      within t ht = truncated-below R R.y_degree K _ ∙ homogeneous_part_y_degree R r (suc K) t
          (sym (truncated-below R R.y_degree K t) ∙ ht)

  -- polynomials without powers of Y above K and with equal slices up to degree D agree up to D
  pub same_slices : (D K : ℕ) (p q : Polynomial R) → HasNoPowerAbove K p → HasNoPowerAbove K q
      → ((r j : ℕ) → r ≤ D → j ≤ K → slice_at R r j p ≡ slice_at R r j q) → truncated R R.degree D p
      ≡ truncated R R.degree D q
  same_slices D K p q hp hq same = same_truncation R R.degree D p q
      (λ r le. same_part r K p q hp hq (λ j lj. same r j le lj))
