-- Polynomials whose coefficient at a power of Y is a number: of sums, products, powers and quotients.
use Rattle.std.proofs.Common.{◌≡◌, ℕ, zero, suc, ◌+◌, ◌-◌, ◌*◌, ◌%◌, ◌^◌, ◌<◌, ◌≤◌, true, false, cond, refl, sym}
use Rattle.std.proofs.Common.{◌∙◌, ap, arith, ◌&&◌}
use Rattle.std.specs.Prelude.{◌==◌}
use Rattle.std.proofs.Math.Dec.{leb}
use Rattle.std.proofs.Math.Nat.{mod-eq_of_lt, add-mod, mul-mod_right, mul-one, mul-zero, one-mul, zero-mul}
use Rattle.std.proofs.Math.Nat.{pow-zero, pow-succ'}
use Rattle.std.proofs.lemmas.Nat.{mul-mod_first}
use Rattle.std.proofs.lemmas.Bool.{eq-eqb}
use Rattle.std.proofs.lemmas.Bool.Decides.{nat_tests}
use Rattle.ps_model.specs.Ring.{Ring}
use Rattle.ps_model.specs.Truncation.{truncated, homogeneous_part}
use Rattle.ps_model.specs.Bounds.{HasNoPowerAbove, IsMonic}
use Rattle.ps_model.specs.Prepared.{IsQuotient}
use Rattle.ps_model.specs.Polynomial.{Polynomial, coefficient, zero as nought, one, monomial, sum, negative, product}
use Rattle.ps_model.specs.Polynomial.{power, scaled, kept_terms}
use Rattle.ps_model.proofs.Coefficients.{linear_form, itself, same_values, above_zero, plus-mod}
use Rattle.ps_model.proofs.Values.{linear_form-monomial, linear_form-sum, linear_form-scaled, linear_form-product}
use Rattle.ps_model.proofs.Values.{linear_form-nil, linear_form-residue}
use Rattle.ps_model.proofs.RingLaws.{mul-mod_last, product-comm}
use Rattle.ps_model.proofs.KeptTerms.{kept_terms-kept_terms, kept_terms-scaled, same_parts}
use Rattle.ps_model.proofs.Truncations.{homogeneous_part-sum, kept_terms-always, kept_terms-never}
use Rattle.ps_model.proofs.Homogeneous.{homogeneous-monomial}
use Rattle.ps_model.proofs.Below.{truncated-below}
use Rattle.ps_model.proofs.Degrees.{kept_terms-commute, homogeneous_part-negative}
use Rattle.ps_model.proofs.Origin.{coefficient-kept_terms, coefficient-monomial, key_cases}
use Rattle.ps_model.proofs.Monic.{monic_from}
use Rattle.ps_model.proofs.PowerBounds.{truncated-monomial, power_bound-power}

-- m - a and (m - 1) * a are the same modulo m
less_one : (m a x : ℕ) → 2 ≤ m → a ≤ m → ((m - 1) * (a * x)) % m ≡ ((m - a) * x) % m
less_one m a x two le = sym (more ((m - 1) * (a * x)) x) ∙ ap (λ n. n % m) (both (m - 1) (m - a) (omega arith)
    (omega arith)) ∙ more ((m - a) * x) (a * x)
  where
    more : (n k : ℕ) → (n + m * k) % m ≡ n % m
    more n k = plus-mod m n n (m * k) 0 refl (mul-mod_right m k ∙ sym (mod-eq_of_lt (omega arith)))
        ∙ ap (λ n. n % m) (omega arith)

    both : (less t : ℕ) → m ≡ less + 1 → m ≡ t + a → less * (a * x) + m * x ≡ t * x + m * (a * x)
    both less t p q = ap (λ n. less * (a * x) + n * x) q ∙ omega arith ∙ ap (λ n. t * x + n * (a * x)) (sym p)

module _ (R : Ring) where
  pub monomial-mod : (a : ℕ) (k : R.Key) → monomial R (a % R.modulus) k ≡ monomial R a k
  monomial-mod a k = same_values R _ _ (λ f. simp (linear_form-monomial, mul-mod_first))

  pub monomial-same : (a b : ℕ) (k : R.Key) → a % R.modulus ≡ b % R.modulus → monomial R a k ≡ monomial R b k
  monomial-same a b k e = sym (monomial-mod a k) ∙ ap (λ n. monomial R n k) e ∙ monomial-mod b k

  pub monomial-sum : (a b : ℕ) (k : R.Key) → sum R (monomial R a k) (monomial R b k) ≡ monomial R (a + b) k
  monomial-sum a b k = same_values R _ _ (λ f. simp (linear_form-sum, linear_form-monomial)
      (sym (add-mod (a * f k) (b * f k) R.modulus) ∙ ap (λ n. n % R.modulus) (omega arith)))

  pub monomial-negative : (a : ℕ) (k : R.Key) → a ≤ R.modulus → negative R (monomial R a k)
      ≡ monomial R (R.modulus - a) k
  unfolding negative
  monomial-negative a k h = same_values R _ _ (λ f. simp (linear_form-scaled, linear_form-monomial, mul-mod_last)
      (less_one R.modulus a (f k) R.at_least_two h))

  pub monomial-product : (a b : ℕ) (x y : R.Key) → product R (monomial R a x) (monomial R b y)
      ≡ monomial R (a * b) (R.◌⊕◌ x y)
  monomial-product a b x y = same_values R _ _
      (λ f. simp (linear_form-product, linear_form-monomial, mul-mod_last) (ap (λ n. n % R.modulus) (omega arith)))

  pub monomial-nothing : (k : R.Key) → monomial R 0 k ≡ nought R
  monomial-nothing k = same_values R _ _ (λ f. simp (linear_form-monomial, linear_form-nil)
      (ap (λ n. n % R.modulus) (zero-mul (f k)) ∙ mod-eq_of_lt (above_zero R)))

  pub scaled-monomial : (c a : ℕ) (k : R.Key) → scaled R c (monomial R a k) ≡ monomial R (c * a) k
  scaled-monomial c a k = same_values R _ _ (λ f. simp (linear_form-scaled, linear_form-monomial, mul-mod_last)
      (ap (λ n. n % R.modulus) (omega arith)))

  -- a factor that is a number, and its inverse
  pub number-product : (c : ℕ) (p : Polynomial R) → product R p (monomial R c R.origin) ≡ scaled R c p
  number-product c p = product-comm R p _ ∙ same_values R _ _
      (λ f. simp (linear_form-product, linear_form-monomial, linear_form-scaled, R.origin-plus))

  pub scaled_back : (b c : ℕ) (p : Polynomial R) → (c * b) % R.modulus ≡ 1 → scaled R b (scaled R c p) ≡ p
  scaled_back b c p e = same_values R _ _ (λ f. simp (linear_form-scaled, mul-mod_last)
      (ap (λ n. n % R.modulus) (swap b c (linear_form R f p))
      ∙ sym (mul-mod_first (c * b) (linear_form R f p) R.modulus)
      ∙ ap (λ n. (n * linear_form R f p) % R.modulus) e ∙ ap (λ n. n % R.modulus) (one-mul _)
      ∙ linear_form-residue R f p))
    where
      swap : (b c x : ℕ) → b * (c * x) ≡ (c * b) * x
      swap b c x = omega arith

  -- the coefficient of Y^K is the number l
  abbrev pub HasTop : ℕ → ℕ → Polynomial R → Type 0
  HasTop K l p = homogeneous_part R R.y_degree K p ≡ monomial R l (R.y K)

  pub top-same : (K a b : ℕ) (p : Polynomial R) → a % R.modulus ≡ b % R.modulus → HasTop K a p → HasTop K b p
  top-same K a b p e h = h ∙ monomial-same a b (R.y K) e

  pub top-monomial : (K l : ℕ) → HasTop K l (monomial R l (R.y K))
  top-monomial K l = ap (λ n. homogeneous_part R R.y_degree n (monomial R l (R.y K))) (sym (R.y_degree-y K))
      ∙ homogeneous-monomial R R.y_degree l (R.y K)

  pub top-truncated : (D K l : ℕ) (p : Polynomial R) → HasTop K l p → HasTop K l (truncated R R.degree D p)
  unfolding truncated homogeneous_part
  top-truncated D K l p h = kept_terms-commute R _ _ p ∙ ap (truncated R R.degree D) h
      ∙ truncated-monomial R R.degree D l (R.y K) (let e = R.degree-y K in omega arith)

  pub top-sum : (K a b : ℕ) (p q : Polynomial R) → HasTop K a p → HasTop K b q → HasTop K (a + b) (sum R p q)
  top-sum K a b p q hp hq = homogeneous_part-sum R R.y_degree K p q ∙ (λ i. sum R (hp i) (hq i))
      ∙ monomial-sum a b (R.y K)

  pub top-negative : (K a : ℕ) (p : Polynomial R) → a ≤ R.modulus → HasTop K a p
      → HasTop K (R.modulus - a) (negative R p)
  top-negative K a p h hp = homogeneous_part-negative R R.y_degree K p ∙ ap (negative R) hp
      ∙ monomial-negative a (R.y K) h

  -- nothing at a power of Y above the bound
  pub top-none : (j K : ℕ) (p : Polynomial R) → j < K → HasNoPowerAbove j p → HasTop K 0 p
  unfolding truncated homogeneous_part
  top-none j K p h hp = ap (homogeneous_part R R.y_degree K) (sym hp) ∙ kept_terms-kept_terms R _ _ p
      ∙ (λ i. kept_terms R (λ x. never (R.y_degree x) i) p) ∙ kept_terms-never R R.y_degree p
      ∙ sym (monomial-nothing (R.y K))
    where
      never : (a : ℕ) → (leb a j && (a == K)) ≡ false
      never a = grind (arith, nat_tests)

  highest : (j k : ℕ) (p q : Polynomial R) → HasNoPowerAbove j p → HasNoPowerAbove k q
      → homogeneous_part R R.y_degree (j + k) (product R p q) ≡ product R (homogeneous_part R R.y_degree j p)
      (homogeneous_part R R.y_degree k q)
  unfolding truncated homogeneous_part
  highest j k p q hp hq = (λ l. homogeneous_part R R.y_degree (j + k) (product R (sym hp l) (sym hq l)))
      ∙ same_parts R (λ x. R.y_degree x == (j + k)) (λ x. leb (R.y_degree x) j) (λ x. leb (R.y_degree x) k)
      (λ x. true) (λ x. R.y_degree x == j) (λ x. R.y_degree x == k) p q
      (λ x y. rw R.y_degree_adds.0 (tight (R.y_degree x) (R.y_degree y)))
      ∙ kept_terms-always R R.y_degree _
    where
      tight : (a b : ℕ) → (leb a j && (leb b k && ((a + b) == (j + k)))) ≡ ((a == j) && ((b == k) && true))
      tight a b = grind (arith, nat_tests)

  pub top-product : (j k a b : ℕ) (p q : Polynomial R) → HasNoPowerAbove j p → HasNoPowerAbove k q → HasTop j a p
      → HasTop k b q → HasTop (j + k) (a * b) (product R p q)
  top-product j k a b p q hp hq tp tq = highest j k p q hp hq ∙ (λ i. product R (tp i) (tq i))
      ∙ monomial-product a b (R.y j) (R.y k) ∙ ap (monomial R (a * b)) (sym (R.y-plus j k))

  pub top-one : HasTop 0 1 (one R)
  unfolding one
  top-one = ap (λ z. homogeneous_part R R.y_degree 0 (monomial R 1 z)) (sym R.y-zero) ∙ top-monomial 0 1

  pub top-power : (k a e : ℕ) (p : Polynomial R) → HasNoPowerAbove k p → HasTop k a p
      → HasTop (e * k) (a ^ e) (power R p e)
  top-power k a zero p hp tp = (λ i. homogeneous_part R R.y_degree (zero-mul k i) (one R)) ∙ top-one
      ∙ (λ i. monomial R (sym (pow-zero a) i) (R.y (sym (zero-mul k) i)))
  top-power k a (suc e) p hp tp = (λ i. homogeneous_part R R.y_degree (more i) (power R p (suc e)))
      ∙ top-product k (e * k) a (a ^ e) p (power R p e) hp (power_bound-power R k e p hp) tp (top-power k a e p hp tp)
      ∙ (λ i. monomial R (sym (pow-succ' a e) i) (R.y (sym more i)))
    where
      more : suc e * k ≡ k + e * k
      more = omega arith

  -- divided by a number that c inverts
  pub top-quotient : (D K a b c : ℕ) (p v q : Polynomial R) → v ≡ monomial R c R.origin → (c * b) % R.modulus ≡ 1
      → HasTop K a p → IsQuotient D p v q → HasTop K (a * b) q
  top-quotient D K a b c p v q number inverts tp is = ap (homogeneous_part R R.y_degree K) scaled_is
      ∙ top_scaled p ∙ ap (scaled R b) tp ∙ scaled-monomial b a (R.y K) ∙ ap (λ n. monomial R n (R.y K)) (omega arith)
    where
      top_scaled : (p : Polynomial R) → homogeneous_part R R.y_degree K (scaled R b p)
          ≡ scaled R b (homogeneous_part R R.y_degree K p)
      top_scaled p = unfold homogeneous_part in kept_terms-scaled R _ b p

      cut_scaled : truncated R R.degree D (scaled R c q) ≡ scaled R c (truncated R R.degree D q)
      cut_scaled = unfold truncated in kept_terms-scaled R _ c q

      scaled_is : q ≡ scaled R b p
      scaled_is = sym (scaled_back b c q inverts) ∙ ap (scaled R b) (ap (scaled R c) (sym is.within) ∙ sym cut_scaled
          ∙ ap (truncated R R.degree D) (sym (number-product c q) ∙ ap (product R q) (sym number))
          ∙ is.multiplies_back)

  -- a polynomial with the number 1 on top is monic
  pub top-monic : (K : ℕ) (p : Polynomial R) → HasNoPowerAbove K p → HasTop K 1 p → IsMonic K p
  top-monic K p hp tp = monic_from R K p (sym (truncated-below R R.y_degree K p) ∙ hp) tp

  pub at_top : (K : ℕ) (p : Polynomial R) (k : R.Key) → R.y_degree k ≡ K
      → coefficient R (homogeneous_part R R.y_degree K p) k ≡ coefficient R p k
  unfolding homogeneous_part
  at_top K p k e = coefficient-kept_terms R _ p k ∙ ap (λ b. cond b (coefficient R p k) 0) (eq-eqb _ _ e)

  -- read off by coefficients
  pub top-coefficient : (K l : ℕ) (p : Polynomial R) → l < R.modulus → HasTop K l p → coefficient R p (R.y K) ≡ l
  top-coefficient K l p h tp = sym (at_top K p (R.y K) (R.y_degree-y K)) ∙ ap (λ q. coefficient R q (R.y K)) tp
      ∙ coefficient-monomial R l (R.y K) (R.y K)
      ∙ ap (λ b. (l * cond b 1 0) % R.modulus) (itself R.compare R.total_order R.antisymmetric (R.y K))
      ∙ ap (λ n. n % R.modulus) (mul-one l) ∙ mod-eq_of_lt h

  pub top-other : (K l : ℕ) (p : Polynomial R) → HasTop K l p → (k : R.Key) → R.y_degree k ≡ K
      → (k ≡ R.y K → ⊥) → coefficient R p k ≡ 0
  top-other K l p tp k at other = sym (at_top K p k at) ∙ ap (λ q. coefficient R q k) tp
      ∙ coefficient-monomial R l (R.y K) k ∙ key_cases R k (R.y K) (λ b. (l * cond b 1 0) % R.modulus ≡ 0)
      (λ same. absurd (other same))
      (λ apart. ap (λ n. n % R.modulus) (mul-zero l) ∙ mod-eq_of_lt (above_zero R))
