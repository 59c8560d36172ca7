-- Division by a power of Y, and by Y^k and a polynomial that is invertible below Y^k.
use Rattle.std.proofs.Common.{◌≡◌, ℕ, ◌+◌, ◌-◌, ◌%◌, ◌≤◌, Bool, true, false, cond, refl, sym, ◌∙◌, ap, arith}
use Rattle.std.proofs.Math.Dec.{leb, ltb}
use Rattle.std.proofs.lemmas.Bool.{leb-true, le-leb}
use Rattle.std.proofs.lemmas.Bool.Decides.{nat_tests}
use Rattle.std.proofs.Math.Nat.{one-mul, mod-eq_of_lt}
use Rattle.ps_model.specs.Ring.{Ring}
use Rattle.ps_model.proofs.Below.{below, below-nothing, below-sum, below-difference, below-homogeneous_part}
use Rattle.ps_model.proofs.Below.{below-product_left, below-product_right}
use Rattle.ps_model.specs.Truncation.{homogeneous_part}
use Rattle.ps_model.specs.Polynomial.{difference, Polynomial, zero as nought, one, monomial, sum, product, kept_terms}
use Rattle.ps_model.specs.Polynomial.{image}
use Rattle.ps_model.proofs.Coefficients.{linear_form, same_values, above_zero}
use Rattle.ps_model.proofs.Values.{linear_form-monomial, linear_form-image, linear_form-kept_terms}
use Rattle.ps_model.proofs.Values.{linear_form-product}
use Rattle.ps_model.proofs.Values.{linear_form-mod, linear_form-residue}
use Rattle.ps_model.proofs.RingLaws.{sum-comm, zero-sum, product-comm, product-assoc, product-one, sum-product}
use Rattle.ps_model.proofs.RingLaws.{zero-product, sum-difference, difference-sum, difference-self}
use Rattle.ps_model.proofs.Truncations.{linear_form-split, kept_terms-always}
use Rattle.ps_model.proofs.Homogeneous.{IsHomogeneous, homogeneous-monomial}

module _ (R : Ring) where
  -- a key without k of its powers of Y
  unfoldable pub lower : ℕ → R.Key → R.Key
  lower k x = R.◌⊕◌ (R.rest x) (R.y (R.y_degree x - k))

  -- p without what is below Y^k, divided by Y^k
  unfoldable pub down : ℕ → Polynomial R → Polynomial R
  down k p = image R (λ x. monomial R 1 (lower k x)) (kept_terms R (λ x. leb k (R.y_degree x)) p)

module _ (R : Ring) where
  abbrev pub y_power : ℕ → Polynomial R
  y_power k = monomial R 1 (R.y k)

  pub lower-up : (k : ℕ) (x : R.Key) → k ≤ R.y_degree x → R.◌⊕◌ (R.y k) (lower R k x) ≡ x
  unfolding lower
  lower-up k x le = sym (R.plus-assoc _ _ _) ∙ ap (λ z. R.◌⊕◌ z (R.y (R.y_degree x - k))) (R.plus-comm _ _)
      ∙ R.plus-assoc _ _ _
      ∙ ap (R.◌⊕◌ (R.rest x)) (sym (R.y-plus k (R.y_degree x - k)) ∙ ap R.y (omega arith)) ∙ R.rest-y x

  y_degree-up : (k : ℕ) (x : R.Key) → R.y_degree (R.◌⊕◌ (R.y k) x) ≡ k + R.y_degree x
  y_degree-up k x = R.y_degree_adds.0 _ _ ∙ ap (λ n. n + R.y_degree x) (R.y_degree-y k)

  pub up-lower : (k : ℕ) (x : R.Key) → lower R k (R.◌⊕◌ (R.y k) x) ≡ x
  unfolding lower
  up-lower k x =
      (λ i. R.◌⊕◌ ((R.rest-plus (R.y k) x ∙ ap (λ z. R.◌⊕◌ z (R.rest x)) (R.rest_of-y k) ∙ R.origin-plus _) i)
      (R.y ((ap (λ n. n - k) (y_degree-up k x) ∙ left k (R.y_degree x)) i))) ∙ R.rest-y x
    where
      left : (k n : ℕ) → k + n - k ≡ n
      left k n = omega arith

  pub y_degree-lower : (k : ℕ) (x : R.Key) → R.y_degree (lower R k x) ≡ R.y_degree x - k
  unfolding lower
  y_degree-lower k x = R.y_degree_adds.0 _ _ ∙ (λ i. R.y_degree-rest x i + R.y_degree-y (R.y_degree x - k) i)
      ∙ omega arith

  pub degree-lower : (k : ℕ) (x : R.Key) → R.degree (lower R k x) ≡ R.degree x
  unfolding lower
  degree-lower k x = R.degree_adds.0 _ _ ∙ ap (λ n. R.degree (R.rest x) + n)
      (R.degree-y _ ∙ sym (R.degree-y (R.y_degree x))) ∙ sym (R.degree_adds.0 _ _) ∙ ap R.degree (R.rest-y x)

  pub linear_form-down : (f : R.Key → ℕ) (k : ℕ) (p : Polynomial R) → linear_form R f (down R k p) ≡ linear_form R
      (λ x. cond (leb k (R.y_degree x)) (f (lower R k x)) 0) p
  unfolding down
  linear_form-down f k p = simp (linear_form-image, linear_form-kept_terms, linear_form-monomial, one-mul)
      ((λ i. linear_form R (λ x. reduced (leb k (R.y_degree x)) (f (lower R k x)) i) p) ∙ linear_form-mod R _ p)
    where
      reduced : (b : Bool) (n : ℕ) → cond b (n % R.modulus) 0 ≡ cond b n 0 % R.modulus
      reduced true n = refl
      reduced false n = sym (mod-eq_of_lt (above_zero R))

  linear_form-up : (f : R.Key → ℕ) (k : ℕ) (p : Polynomial R) → linear_form R f (product R (y_power k) p)
      ≡ linear_form R (λ x. f (R.◌⊕◌ (R.y k) x)) p
  linear_form-up f k p = simp (linear_form-product, linear_form-monomial, one-mul, linear_form-residue)

  when : (b : Bool) (m n : ℕ) → (b ≡ true → m ≡ n) → cond b m 0 ≡ cond b n 0
  when true m n h = h refl
  when false m n h = refl

  pub up-down : (k : ℕ) (p : Polynomial R) → product R (y_power k) (down R k p) ≡ kept_terms R
      (λ x. leb k (R.y_degree x)) p
  up-down k p = same_values R _ _ (λ f. linear_form-up f k (down R k p) ∙ linear_form-down _ k p
      ∙ (λ i. linear_form R (λ x. when (leb k (R.y_degree x)) _ _ (λ e. ap f (lower-up k x (leb-true k _ e))) i) p)
      ∙ sym (linear_form-kept_terms R f _ p))

  pub down-up : (k : ℕ) (p : Polynomial R) → down R k (product R (y_power k) p) ≡ p
  down-up k p = same_values R _ _ (λ f. linear_form-down f k _ ∙ linear_form-up _ k p
      ∙ λ i. linear_form R (λ x. always f x i) p)
    where
      always : (f : R.Key → ℕ) (x : R.Key) → cond (leb k (R.y_degree (R.◌⊕◌ (R.y k) x)))
          (f (lower R k (R.◌⊕◌ (R.y k) x))) 0 ≡ f x
      always f x = rw (y_degree-up, le-leb k (k + R.y_degree x) (omega arith), up-lower)

  pub up-cancel : (k : ℕ) (p q : Polynomial R) → product R (y_power k) p ≡ product R (y_power k) q → p ≡ q
  up-cancel k p q e = sym (down-up k p) ∙ ap (down R k) e ∙ down-up k q

  pub below-up : (k : ℕ) (p : Polynomial R) → below R R.y_degree k (product R (y_power k) p) ≡ nought R
  below-up k p = below-product_left R R.y_degree R.y_degree_adds k (y_power k) p
      ∙ ap (λ q. below R R.y_degree k (product R q p)) none ∙ ap (below R R.y_degree k) (zero-product R p)
      ∙ below-nothing R R.y_degree k
    where
      flat : IsHomogeneous R R.y_degree k (y_power k)
      flat = ap (λ n. homogeneous_part R R.y_degree n (y_power k)) (sym (R.y_degree-y k))
          ∙ homogeneous-monomial R R.y_degree 1 (R.y k)

      none : below R R.y_degree k (y_power k) ≡ nought R
      none = ap (below R R.y_degree k) (sym flat) ∙ below-homogeneous_part R R.y_degree k k (y_power k) (omega arith)

  pub below-and-above : (k : ℕ) (p : Polynomial R) → p ≡ sum R (below R R.y_degree k p)
      (kept_terms R (λ x. leb k (R.y_degree x)) p)
  unfolding below
  below-and-above k p = sym (kept_terms-always R R.y_degree p) ∙ linear_form-split R R.y_degree _ _ _ p
      (λ x n. either (R.y_degree x) n)
    where
      either : (a n : ℕ) → cond true n 0 ≡ cond (ltb a k) n 0 + cond (leb k a) n 0
      either a n = grind (arith, nat_tests)

  -- what has nothing below Y^k is a multiple of Y^k
  pub multiple : (k : ℕ) (p : Polynomial R) → below R R.y_degree k p ≡ nought R → product R (y_power k) (down R k p) ≡ p
  multiple k p none = up-down k p
      ∙ sym (below-and-above k p ∙ ap (λ q. sum R q (kept_terms R (λ x. leb k (R.y_degree x)) p)) none ∙ zero-sum R _)

  -- tests that pass to what was divided
  pub kept_terms-down : (t u : R.Key → Bool) (k : ℕ) (p : Polynomial R)
      → ((x : R.Key) → k ≤ R.y_degree x → t (lower R k x) ≡ u x) → kept_terms R t (down R k p)
      ≡ down R k (kept_terms R u p)
  kept_terms-down t u k p same = same_values R _ _ (λ f. linear_form-kept_terms R f t (down R k p)
      ∙ linear_form-down _ k p
      ∙ (λ i. linear_form R (λ x. swap (leb k (R.y_degree x)) (t (lower R k x)) (u x) (f (lower R k x))
      (λ e. same x (leb-true k _ e)) i) p)
      ∙ sym (linear_form-down f k (kept_terms R u p) ∙ linear_form-kept_terms R _ u p))
    where
      swap : (a b c : Bool) (n : ℕ) → (a ≡ true → b ≡ c) → cond a (cond b n 0) 0 ≡ cond c (cond a n 0) 0
      swap true b c n e = ap (λ b. cond b n 0) (e refl)
      swap false b true n e = refl
      swap false b false n e = refl

  -- division by Y^k and by b, which v inverts below Y^k
  module _ (k : ℕ) (b v : Polynomial R) (inverts : below R R.y_degree k (product R b v) ≡ below R R.y_degree k (one R))
    where
      unfoldable pub remainder : Polynomial R → Polynomial R
      remainder g = below R R.y_degree k (product R g v)

      unfoldable pub quotient : Polynomial R → Polynomial R
      quotient g = down R k (difference R g (product R (remainder g) b))

      -- below Y^k, b * v is 1
      undone : (a : Polynomial R) → below R R.y_degree k (product R a (product R b v)) ≡ below R R.y_degree k a
      undone a = below-product_right R R.y_degree R.y_degree_adds k a _ ∙ ap (λ t. below R R.y_degree k (product R a t))
          inverts
          ∙ sym (below-product_right R R.y_degree R.y_degree_adds k a (one R))
          ∙ ap (below R R.y_degree k) (product-one R a)

      pub divided : (g : Polynomial R) → sum R (product R (y_power k) (quotient g)) (product R (remainder g) b) ≡ g
      unfolding quotient remainder
      divided g = ap (λ q. sum R q (product R (remainder g) b)) (multiple k _ none) ∙ sum-comm R _ _
          ∙ sum-difference R (product R (remainder g) b) g
        where
          same : below R R.y_degree k (product R (remainder g) b) ≡ below R R.y_degree k g
          same = sym (below-product_left R R.y_degree R.y_degree_adds k (product R g v) b)
              ∙ ap (below R R.y_degree k) (product-assoc R g v b ∙ ap (product R g) (product-comm R v b)) ∙ undone g

          none : below R R.y_degree k (difference R g (product R (remainder g) b)) ≡ nought R
          none = below-difference R R.y_degree k g _ ∙ ap (difference R (below R R.y_degree k g)) same
              ∙ difference-self R _

      pub remainder_is : (g w a : Polynomial R) → below R R.y_degree k a ≡ a → sum R (product R (y_power k) w)
          (product R a b) ≡ g → a ≡ remainder g
      unfolding remainder
      remainder_is g w a low is = sym (ap (λ g. below R R.y_degree k (product R g v)) (sym is)
          ∙ ap (below R R.y_degree k) (sum-product R _ _ v ∙ λ i. sum R (product-assoc R (y_power k) w v i)
          (product-assoc R a b v i))
          ∙ below-sum R R.y_degree k _ _ ∙ (λ i. sum R (below-up k (product R w v) i) ((undone a ∙ low) i))
          ∙ zero-sum R a)

      pub quotient_is : (g w a : Polynomial R) → below R R.y_degree k a ≡ a → sum R (product R (y_power k) w)
          (product R a b) ≡ g → w ≡ quotient g
      unfolding quotient
      quotient_is g w a low is = sym (down-up k w)
          ∙ ap (down R k) (sym (ap (λ a. difference R g (product R a b)) (sym (remainder_is g w a low is))
          ∙ ap (λ g. difference R g (product R a b)) (sym is ∙ sum-comm R _ _) ∙ difference-sum R _ _))
