-- The laws of the shift.
use Rattle.std.proofs.Common.{◌≡◌, ℕ, zero, suc, ◌+◌, ◌*◌, ◌%◌, refl, sym, ◌∙◌, ap, arith, add-zero}
use Rattle.ps_model.specs.Ring.{Ring}
use Rattle.ps_model.specs.Shift.{linear, shifted_key, shifted}
use Rattle.ps_model.specs.Polynomial.{Polynomial, one, monomial, sum, scaled, product, power, image}
use Rattle.ps_model.proofs.Coefficients.{same_values, above_zero}
use Rattle.ps_model.proofs.Values.{linear_form-sum, linear_form-scaled, linear_form-one, linear_form-monomial}
use Rattle.ps_model.proofs.RingLaws.{mul-mod_last, product-comm, one-product, power-add, product-four}
use Rattle.ps_model.proofs.Images.{image-sum, image-monomial, image-image, image-monomials, scaled_one, monomial-plus}
use Rattle.ps_model.proofs.Images.{image-product}
use Rattle.std.proofs.Math.Nat.{add-mod-mod, mod-add-mod, mod-eq_of_lt}
use Rattle.std.proofs.lemmas.Nat.{mul-mod_first}

module _ (R : Ring) where
  pub shifted_key-plus : (c : ℕ) (x z : R.Key) → shifted_key R c (R.◌⊕◌ x z) ≡ product R (shifted_key R c x)
      (shifted_key R c z)
  unfolding shifted_key
  shifted_key-plus c x z = simp (R.rest-plus, R.y_degree_adds.0, monomial-plus, power-add) (product-four R _ _ _ _)

  pub shifted-product : (c : ℕ) (p q : Polynomial R) → shifted R c (product R p q) ≡ product R (shifted R c p)
      (shifted R c q)
  unfolding shifted
  shifted-product c p q = image-product R (shifted_key R c) (shifted_key-plus c) p q

  pub shifted-sum : (c : ℕ) (p q : Polynomial R) → shifted R c (sum R p q) ≡ sum R (shifted R c p) (shifted R c q)
  unfolding shifted
  shifted-sum c p q = image-sum R (shifted_key R c) p q

  rest_of-origin : R.rest R.origin ≡ R.origin
  rest_of-origin = ap R.rest (sym R.y-zero) ∙ R.rest_of-y 0

  pub rest-rest : (x : R.Key) → R.rest (R.rest x) ≡ R.rest x
  rest-rest x = sym (R.plus-comm _ _ ∙ R.origin-plus _) ∙ ap (R.◌⊕◌ (R.rest (R.rest x)))
      (sym R.y-zero ∙ ap R.y (sym (R.y_degree-rest x))) ∙ R.rest-y (R.rest x)

  monomial_origin : monomial R 1 R.origin ≡ one R
  unfolding one
  monomial_origin = refl

  pub shifted_key-y : (c j : ℕ) → shifted_key R c (R.y j) ≡ power R (linear R c) j
  unfolding shifted_key
  shifted_key-y c j = simp (R.rest_of-y, R.y_degree-y, monomial_origin, one-product)

  pub shifted_key-rest : (c : ℕ) (x : R.Key) → shifted_key R c (R.rest x) ≡ monomial R 1 (R.rest x)
  unfolding shifted_key
  shifted_key-rest c x = simp (R.y_degree-rest, rest-rest) (product-comm R _ _ ∙ one-product R _)

  shifted_key-origin : (c : ℕ) → shifted_key R c R.origin ≡ one R
  shifted_key-origin c = ap (shifted_key R c) (sym R.y-zero) ∙ shifted_key-y c 0

  pub shifted-monomial : (c n : ℕ) (x : R.Key) → shifted R c (monomial R n x) ≡ scaled R n (shifted_key R c x)
  unfolding shifted
  shifted-monomial c n x = image-monomial R (shifted_key R c) n x

  pub shifted-one : (c : ℕ) → shifted R c (one R) ≡ one R
  shifted-one c = ap (shifted R c) (sym monomial_origin) ∙ shifted-monomial c 1 R.origin ∙ scaled_one R _
      ∙ shifted_key-origin c

  pub shifted-power : (c : ℕ) (p : Polynomial R) (e : ℕ) → shifted R c (power R p e) ≡ power R (shifted R c p) e
  shifted-power c p zero = shifted-one c
  shifted-power c p (suc e) = shifted-product c p (power R p e) ∙ ap (product R (shifted R c p)) (shifted-power c p e)

  constants : (b c : ℕ) → sum R (linear R c) (scaled R b (one R)) ≡ linear R (b + c)
  unfolding linear
  constants b c = same_values R _ _
      (λ f. simp (
        linear_form-sum,
        linear_form-scaled,
        linear_form-one,
        linear_form-monomial,
        add-mod-mod,
        mod-add-mod,
        mul-mod_last,
      ) (ap (λ n. n % R.modulus) (omega arith)))

  power_1 : (p : Polynomial R) → power R p 1 ≡ p
  power_1 p = product-comm R _ _ ∙ one-product R p

  pub shifted-linear : (c b : ℕ) → shifted R c (linear R b) ≡ linear R (b + c)
  shifted-linear c b = unfold linear in shifted-sum c _ _
      ∙ (λ i. sum R ((shifted-monomial c 1 (R.y 1) ∙ scaled_one R _ ∙ shifted_key-y c 1 ∙ power_1 _) i)
      ((shifted-monomial c b R.origin ∙ ap (scaled R b) (shifted_key-origin c)) i)) ∙ constants b c

  pub linear-zero : (c : ℕ) → c % R.modulus ≡ 0 → linear R c ≡ monomial R 1 (R.y 1)
  unfolding linear
  linear-zero c h = same_values R _ _ (λ f. simp (linear_form-sum, linear_form-monomial, add-mod-mod, mod-add-mod)
      (gone (f (R.y 1)) (f R.origin)))
    where
      gone : (a b : ℕ) → (1 * a + c * b) % R.modulus ≡ (1 * a) % R.modulus
      gone a b = sym (add-mod-mod (1 * a) (c * b) R.modulus) ∙ rw (← mul-mod_first c b R.modulus, h)
          (let e : 0 * b ≡ 0 = omega arith in rw e (rw (mod-eq_of_lt (above_zero R), add-zero)))

  pub power-y : (j : ℕ) → power R (monomial R 1 (R.y 1)) j ≡ monomial R 1 (R.y j)
  power-y zero = sym (ap (monomial R 1) R.y-zero ∙ monomial_origin)
  power-y (suc j) = ap (product R (monomial R 1 (R.y 1))) (power-y j) ∙ sym (monomial-plus R _ _)
      ∙ ap (monomial R 1) (sym (R.y-plus 1 j) ∙ ap R.y (omega arith))

  pub shifted-rest : (c : ℕ) (x : R.Key) → shifted R c (monomial R 1 (R.rest x)) ≡ monomial R 1 (R.rest x)
  shifted-rest c x = shifted-monomial c 1 (R.rest x) ∙ scaled_one R _ ∙ shifted_key-rest c x

  back : (b c : ℕ) → (c + b) % R.modulus ≡ 0 → (x : R.Key) → shifted R b (shifted_key R c x) ≡ monomial R 1 x
  unfolding shifted_key
  back b c h x = shifted-product b _ _
      ∙ (λ i. product R (shifted-rest b x i)
      ((shifted-power b (linear R c) (R.y_degree x) ∙ ap (λ p. power R p (R.y_degree x)) (shifted-linear b c
      ∙ linear-zero (c + b) h) ∙ power-y (R.y_degree x)) i))
      ∙ sym (monomial-plus R _ _) ∙ ap (monomial R 1) (R.rest-y x)

  pub shifted-shifted : (b c : ℕ) → (c + b) % R.modulus ≡ 0 → (p : Polynomial R) → shifted R b (shifted R c p) ≡ p
  unfolding shifted
  shifted-shifted b c h p = image-image R (shifted_key R b) (shifted_key R c) p ∙ (λ i. image R (λ x. back b c h x i) p)
      ∙ image-monomials R p
