-- Monic polynomials: their products, shifts and truncations.
use Rattle.std.proofs.Common.{◌≡◌, ℕ, zero, suc, ◌+◌, ◌*◌, Bool, true, false, cond, ◌&&◌, refl, sym, ◌∙◌, ap, arith}
use Rattle.std.proofs.Common.{zero-add, zero-mul}
use Rattle.std.specs.Prelude.{◌==◌}
use Rattle.std.proofs.Math.Dec.{leb, ltb}
use Rattle.std.proofs.lemmas.Bool.{ltb-true, le-leb}
use Rattle.std.proofs.lemmas.Bool.Decides.{nat_tests}
use Rattle.ps_model.specs.Ring.{Ring}
use Rattle.ps_model.specs.Truncation.{truncated, homogeneous_part}
use Rattle.ps_model.proofs.Below.{below, below-below}
use Rattle.ps_model.specs.Shift.{linear, shifted_key, shifted}
use Rattle.ps_model.specs.Bounds.{IsMonic}
use Rattle.ps_model.specs.Polynomial.{Polynomial, one, monomial, sum, product, power, kept_terms, image}
use Rattle.ps_model.proofs.Coefficients.{linear_form, same_values}
use Rattle.ps_model.proofs.Values.{linear_form-kept_terms, linear_form-image}
use Rattle.ps_model.proofs.RingLaws.{zero-sum, sum-zero}
use Rattle.ps_model.proofs.KeptTerms.{kept_terms-kept_terms, kept_terms-sum, same_parts}
use Rattle.ps_model.proofs.Truncations.{kept_terms-always}
use Rattle.ps_model.proofs.Homogeneous.{kept_terms-monomial, homogeneous-monomial}
use Rattle.ps_model.proofs.Images.{monomial-plus, scaled_one}
use Rattle.ps_model.proofs.Shifts.{shifted-sum, shifted-monomial, shifted_key-y}
use Rattle.ps_model.proofs.Division.{y_power, below-and-above}
use Rattle.ps_model.proofs.Degrees.{kept_terms-commute, homogeneous-below, below_more, below_of-product}
use Rattle.ps_model.proofs.Existence.{monic_y_degree, y_degree_y, none_above}

pub when : (b : Bool) (m n : ℕ) → (b ≡ true → m ≡ n) → cond b m 0 ≡ cond b n 0
when true m n h = h refl
when false m n h = refl

module _ (R : Ring) where
  -- the images of keys that pass u pass t
  pub kept_terms-image_of : (t u : R.Key → Bool) (g : R.Key → Polynomial R)
      → ((x : R.Key) → u x ≡ true → kept_terms R t (g x) ≡ g x)
      → (p : Polynomial R) → kept_terms R t (image R g (kept_terms R u p)) ≡ image R g (kept_terms R u p)
  kept_terms-image_of t u g h p = same_values R _ _ (λ f. simp (linear_form-kept_terms, linear_form-image)
      (λ i. linear_form R (λ x. when (u x) _ _ (λ e. inner f x e) i) p))
    where
      inner : (f : R.Key → ℕ) (x : R.Key) → u x ≡ true → linear_form R (λ w. cond (t w) (f w) 0) (g x) ≡ linear_form R f
          (g x)
      inner f x e = sym (linear_form-kept_terms R f t (g x)) ∙ ap (linear_form R f) (h x e)

module _ (R : Ring) where
  pub monic_top : (k : ℕ) (p : Polynomial R) → IsMonic k p → homogeneous_part R R.y_degree k p ≡ y_power R k
  unfolding homogeneous_part
  monic_top k p monic = sym (kept_terms-kept_terms R _ _ p ∙ λ i. kept_terms R (λ x. top (R.y_degree x) i) p)
      ∙ ap (kept_terms R (λ x. R.y_degree x == k)) monic ∙ y_degree_y R k
    where
      top : (a : ℕ) → (leb k a && (a == k)) ≡ (a == k)
      top a = grind (arith, nat_tests)

  -- at Y^(i+j) and above, a product of polynomials without powers above Y^i and Y^j
  top-product : (i j : ℕ) (p q : Polynomial R) → below R R.y_degree (suc i) p ≡ p → below R R.y_degree (suc j) q ≡ q
      → kept_terms R (λ x. leb (i + j) (R.y_degree x)) (product R p q) ≡ product R (homogeneous_part R R.y_degree i p)
      (homogeneous_part R R.y_degree j q)
  unfolding below homogeneous_part
  top-product i j p q hp hq = (λ l. kept_terms R (λ x. leb (i + j) (R.y_degree x)) (product R (sym hp l) (sym hq l)))
      ∙ same_parts R (λ x. leb (i + j) (R.y_degree x)) (λ x. ltb (R.y_degree x) (suc i))
      (λ x. ltb (R.y_degree x) (suc j)) (λ x. true) (λ x. R.y_degree x == i) (λ x. R.y_degree x == j) p q
      (λ x y. rw R.y_degree_adds.0 (tight (R.y_degree x) (R.y_degree y)))
      ∙ kept_terms-always R R.y_degree _
    where
      tight : (a b : ℕ) → (ltb a (suc i) && (ltb b (suc j) && leb (i + j) (a + b))) ≡ ((a == i) && ((b == j) && true))
      tight a b = grind (arith, nat_tests)

  pub monic-product : (i j : ℕ) (p q : Polynomial R) → IsMonic i p → IsMonic j q → IsMonic (i + j) (product R p q)
  monic-product i j p q hp hq = top-product i j p q (monic_y_degree R i p hp) (monic_y_degree R j q hq)
      ∙ (λ l. product R (monic_top i p hp l) (monic_top j q hq l)) ∙ sym (monomial-plus R _ _)
      ∙ ap (monomial R 1) (sym (R.y-plus i j))

  -- what is left where a monic factor is taken off
  pub monic_cofactor : (i j : ℕ) (p q : Polynomial R) → IsMonic i p → below R R.y_degree (suc j) q ≡ q
      → kept_terms R (λ x. leb (i + j) (R.y_degree x)) (product R p q) ≡ product R (y_power R i)
      (homogeneous_part R R.y_degree j q)
  monic_cofactor i j p q hp hq = top-product i j p q (monic_y_degree R i p hp) hq
      ∙ ap (λ t. product R t (homogeneous_part R R.y_degree j q)) (monic_top i p hp)

  pub monic_from : (j : ℕ) (q : Polynomial R) → below R R.y_degree (suc j) q ≡ q → homogeneous_part R R.y_degree j q
      ≡ y_power R j → IsMonic j q
  unfolding below homogeneous_part
  monic_from j q hq top = ap (kept_terms R (λ x. leb j (R.y_degree x))) (sym hq) ∙ kept_terms-kept_terms R _ _ q
      ∙ (λ i. kept_terms R (λ x. tight (R.y_degree x) i) q) ∙ top
    where
      tight : (a : ℕ) → (ltb a (suc j) && leb j a) ≡ (a == j)
      tight a = grind (arith, nat_tests)

  pub monic-y : (k : ℕ) → IsMonic k (y_power R k)
  monic-y k = kept_terms-monomial R _ 1 (R.y k) (ap (leb k) (R.y_degree-y k) ∙ le-leb k k (omega arith))

  pub monic-one : IsMonic 0 (one R)
  unfolding one
  monic-one = ap (λ z. kept_terms R (λ x. leb 0 (R.y_degree x)) (monomial R 1 z)) (sym R.y-zero) ∙ monic-y 0

  flat-y_degree : (c : ℕ) → below R R.y_degree 1 (monomial R c R.origin) ≡ monomial R c R.origin
  flat-y_degree c = homogeneous-below R R.y_degree 0 1 _ (omega arith)
      (ap (λ n. homogeneous_part R R.y_degree n (monomial R c R.origin)) (sym R.y_degree_adds.1)
      ∙ homogeneous-monomial R R.y_degree c R.origin)

  pub monic-linear : (c : ℕ) → IsMonic 1 (linear R c)
  unfolding linear
  monic-linear c = kept_terms-sum R _ _ _ ∙ (λ i. sum R (monic-y 1 i) (none_above R 1 _ (flat-y_degree c) i))
      ∙ sum-zero R _

  pub monic-power : (k e : ℕ) (p : Polynomial R) → IsMonic k p → IsMonic (e * k) (power R p e)
  monic-power k zero p hp = rw zero-mul monic-one
  monic-power k (suc e) p hp = let more : suc e * k ≡ k + e * k = omega arith in rw more
      (monic-product k (e * k) p (power R p e) hp (monic-power k e p hp))

  pub monic-linear_power : (c e : ℕ) → IsMonic e (power R (linear R c) e)
  monic-linear_power c e = let same : e * 1 ≡ e = omega arith in rw same at
      (monic-power 1 e (linear R c) (monic-linear c))

  -- a shift raises no power of Y
  key_y_degree : (c : ℕ) (x : R.Key) → below R R.y_degree (suc (R.y_degree x)) (shifted_key R c x) ≡ shifted_key R c x
  unfolding shifted_key
  key_y_degree c x = rw zero-add at (below_of-product R R.y_degree R.y_degree_adds 0 (R.y_degree x) _ _
      (homogeneous-below R R.y_degree 0 1 _ (omega arith)
      (ap (λ n. homogeneous_part R R.y_degree n (monomial R 1 (R.rest x))) (sym (R.y_degree-rest x))
      ∙ homogeneous-monomial R R.y_degree 1 (R.rest x)))
      (monic_y_degree R (R.y_degree x) _ (monic-linear_power c (R.y_degree x))))

  pub shifted-y_degree : (c k : ℕ) (p : Polynomial R) → below R R.y_degree k p ≡ p
      → below R R.y_degree k (shifted R c p) ≡ shifted R c p
  unfolding shifted below
  shifted-y_degree c k p hp = ap (λ p. below R R.y_degree k (image R (shifted_key R c) p)) (sym hp)
      ∙ kept_terms-image_of R _ _ (shifted_key R c) (λ x e. below_more R R.y_degree (suc (R.y_degree x)) k _
      (ltb-true _ _ e) (key_y_degree c x)) p ∙ ap (image R (shifted_key R c)) hp

  pub monic-shifted : (c k : ℕ) (p : Polynomial R) → IsMonic k p → IsMonic k (shifted R c p)
  monic-shifted c k p hp = ap (λ p. kept_terms R (λ x. leb k (R.y_degree x)) (shifted R c p)) (below-and-above R k p
      ∙ ap (sum R (below R R.y_degree k p)) hp)
      ∙ ap (kept_terms R (λ x. leb k (R.y_degree x))) (shifted-sum R c _ _
      ∙ ap (sum R (shifted R c (below R R.y_degree k p))) (shifted-monomial R c 1 (R.y k) ∙ scaled_one R _
      ∙ shifted_key-y R c k))
      ∙ kept_terms-sum R _ _ _
      ∙ (λ i. sum R (none_above R k _ (shifted-y_degree c k _ (below-below R R.y_degree k k p (omega arith))) i)
      (monic-linear_power c k i)) ∙ zero-sum R _

  pub monic-truncated : (D k : ℕ) (p : Polynomial R) → IsMonic k p → IsMonic k (truncated R R.degree D p)
  unfolding truncated
  monic-truncated D k p hp = kept_terms-commute R _ _ p ∙ ap (truncated R R.degree D) hp
      ∙ kept_terms-monomial R _ 1 (R.y k) (ap (λ n. leb n D) (R.degree-y k) ∙ le-leb 0 D (omega arith))

  pub truncated-y_degree : (D k : ℕ) (p : Polynomial R) → below R R.y_degree k p ≡ p
      → below R R.y_degree k (truncated R R.degree D p) ≡ truncated R R.degree D p
  unfolding truncated below
  truncated-y_degree D k p hp = kept_terms-commute R _ _ p ∙ ap (truncated R R.degree D) hp
