-- Coefficients of parts and of monomials, and what has degree 0.
use Rattle.std.proofs.Common.{◌≡◌, ℕ, ◌*◌, ◌%◌, ◌<◌, Bool, true, false, cond, refl, sym, ◌∙◌, ap, subst, arith}
use Rattle.std.specs.Prelude.{◌==◌}
use Rattle.std.specs.Ordering.{eq_by_cmp}
use Rattle.std.proofs.Math.Dec.{leb, ltb}
use Rattle.std.proofs.lemmas.Bool.{leb-true, leb-false, lt-leb, le-leb, ltb-true, eqb-true}
use Rattle.std.proofs.Math.Nat.{mod-eq_of_lt, one-mul, mul-one, mul-zero}
use Rattle.std.proofs.lemmas.Nat.{mul-mod_first}
use Rattle.ps_model.proofs.RingLaws.{mul-mod_last}
use Rattle.ps_model.specs.Ring.{Ring}
use Rattle.ps_model.proofs.Below.{below}
use Rattle.ps_model.specs.Truncation.{truncated, homogeneous_part}
use Rattle.ps_model.specs.Polynomial.{Polynomial, coefficient, zero as nought, one, monomial, product, kept_terms}
use Rattle.ps_model.proofs.Coefficients.{linear_form, at_key, tie, itself, small, same_values, same_coefficients}
use Rattle.ps_model.proofs.Coefficients.{coefficient-linear_form, above_zero}
use Rattle.ps_model.proofs.Values.{linear_form-kept_terms, linear_form-nil, linear_form-monomial, linear_form-product}
use Rattle.ps_model.proofs.Values.{linear_form-one}
use Rattle.ps_model.proofs.KeptTerms.{linear_form-when}
use Rattle.ps_model.proofs.Division.{down, lower, lower-up, up-lower, linear_form-down}

module _ (R : Ring) where
  pub same_key : (x z : R.Key) → eq_by_cmp R.compare x z ≡ true → x ≡ z
  same_key x z e = tie R.compare R.total_order R.antisymmetric x z e

  -- what holds where two keys are equal, and where they differ
  pub key_cases : (x z : R.Key) (P : Bool → Type 0) → (x ≡ z → P true) → ((x ≡ z → ⊥) → P false)
      → P (eq_by_cmp R.compare x z)
  key_cases x z P same other = elim (eq_by_cmp R.compare x z) as (λ b. eq_by_cmp R.compare x z ≡ b → P b) [
    | true ↦ λ e. same (same_key x z e)
    | false ↦ λ e. other (λ is. apart (sym (itself R.compare R.total_order R.antisymmetric x ∙ refl)
        ∙ ap (eq_by_cmp R.compare x) is ∙ e))
  ] refl
    where
      apart : true ≡ false → ⊥
      apart e = cc

  pub coefficient-kept_terms : (t : R.Key → Bool) (p : Polynomial R) (k : R.Key) → coefficient R (kept_terms R t p) k
      ≡ cond (t k) (coefficient R p k) 0
  coefficient-kept_terms t p k = sym (coefficient-linear_form R _ k) ∙ linear_form-kept_terms R (at_key R k) t p
      ∙ (λ i. linear_form R (λ x. here x i) p) ∙ sym (linear_form-when R (t k) (at_key R k) p)
      ∙ ap (λ n. cond (t k) n 0) (coefficient-linear_form R p k)
    where
      here : (x : R.Key) → cond (t x) (at_key R k x) 0 ≡ cond (t k) (at_key R k x) 0
      here x = key_cases k x (λ b. ◌≡◌ {A = ℕ} (cond (t x) (cond b 1 0) 0) (cond (t k) (cond b 1 0) 0))
          (λ e. ap (λ z. cond (t z) 1 0) (sym e)) (λ e. nothing (t x) ∙ sym (nothing (t k)))
        where
          nothing : (b : Bool) → ◌≡◌ {A = ℕ} (cond b 0 0) 0
          nothing true = refl
          nothing false = refl

  pub coefficient-monomial : (c : ℕ) (x k : R.Key) → coefficient R (monomial R c x) k ≡ (c * at_key R k x) % R.modulus
  coefficient-monomial c x k = sym (coefficient-linear_form R _ k) ∙ linear_form-monomial R (at_key R k) c x

  pub coefficient-zero : (k : R.Key) → coefficient R (nought R) k ≡ 0
  coefficient-zero k = sym (coefficient-linear_form R _ k) ∙ linear_form-nil R (at_key R k)

  pub constants : (a b : ℕ) → product R (monomial R a R.origin) (monomial R b R.origin) ≡ monomial R (a * b) R.origin
  constants a b = same_values R _ _ (λ f. simp (linear_form-product, linear_form-monomial, R.origin-plus, mul-mod_last)
      (ap (λ n. n % R.modulus) (omega arith)))

  pub constant_one : (a : ℕ) → a % R.modulus ≡ 1 → monomial R a R.origin ≡ one R
  constant_one a h = same_values R _ _ (λ f. simp (linear_form-monomial, linear_form-one)
      (sym (mul-mod_first a (f R.origin) R.modulus) ∙ ap (λ n. (n * f R.origin) % R.modulus) h
      ∙ ap (λ n. n % R.modulus) (one-mul _)))

module _ (R : Ring) where
  -- a key of degree 0 is a power of Y
  pub key_is-y : (x : R.Key) → R.degree x ≡ 0 → x ≡ R.y (R.y_degree x)
  key_is-y x h = sym (R.rest-y x) ∙ ap (λ z. R.◌⊕◌ z (R.y (R.y_degree x))) (R.degree_zero x h) ∙ R.origin-plus _

  pub nothing_below : (k : ℕ) (p : Polynomial R) → ((j : ℕ) → j < k → coefficient R p (R.y j) ≡ 0)
      → below R R.y_degree k (homogeneous_part R R.degree 0 p) ≡ nought R
  unfolding below homogeneous_part
  nothing_below k p none = same_coefficients R _ _ (λ x. coefficient-kept_terms R _ _ x
      ∙ ap (λ n. cond (ltb (R.y_degree x) k) n 0) (coefficient-kept_terms R _ p x)
      ∙ (elim (ltb (R.y_degree x) k) as (λ b. ltb (R.y_degree x) k ≡ b
      → cond b (cond (R.degree x == 0) (coefficient R p x) 0) 0 ≡ 0) [
        | true ↦ λ e. elim (R.degree x == 0) as (λ b. (R.degree x == 0) ≡ b → cond b (coefficient R p x) 0 ≡ 0) [
          | true ↦ λ flat. ap (coefficient R p) (key_is-y x (eqb-true _ _ flat)) ∙ none (R.y_degree x) (ltb-true _ _ e)
          | false ↦ λ flat. refl
        ] refl
        | false ↦ λ e. refl
      ] refl) ∙ sym (coefficient-zero R x))

  pub constant_is : (p : Polynomial R) → homogeneous_part R R.y_degree 0 (homogeneous_part R R.degree 0 p)
      ≡ monomial R (coefficient R p R.origin) R.origin
  unfolding homogeneous_part
  constant_is p = same_coefficients R _ _ (λ x. coefficient-kept_terms R _ _ x ∙ ap (λ n. cond (R.y_degree x == 0) n 0)
      (coefficient-kept_terms R _ p x) ∙ at_origin x ∙ sym (coefficient-monomial R _ R.origin x))
    where
      at_origin : (x : R.Key) → cond (R.y_degree x == 0) (cond (R.degree x == 0) (coefficient R p x) 0) 0
          ≡ (coefficient R p R.origin * at_key R x R.origin) % R.modulus
      at_origin x = key_cases R x R.origin (λ b. cond (R.y_degree x == 0) (cond (R.degree x == 0) (coefficient R p x) 0)
          0 ≡ (coefficient R p R.origin * cond b 1 0) % R.modulus)
          (λ is. subst (λ z. cond (R.y_degree z == 0) (cond (R.degree z == 0) (coefficient R p z) 0) 0
          ≡ (coefficient R p R.origin * 1) % R.modulus) (sym is)
          (rw (R.y_degree_adds.1, R.degree_adds.1)
          (sym (ap (λ n. n % R.modulus) (mul-one _) ∙ mod-eq_of_lt (small R p R.origin)))))
          (λ differs.
          (elim (R.y_degree x == 0) as (λ b. (R.y_degree x == 0) ≡ b
          → cond b (cond (R.degree x == 0) (coefficient R p x) 0) 0 ≡ 0) [
            | true ↦ λ low. elim (R.degree x == 0) as (λ b. (R.degree x == 0) ≡ b → cond b (coefficient R p x) 0 ≡ 0) [
              | true ↦ λ flat. absurd (differs (key_is-y x (eqb-true _ _ flat) ∙ ap R.y (eqb-true _ _ low) ∙ R.y-zero))
              | false ↦ λ flat. refl
            ] refl
            | false ↦ λ low. refl
          ] refl) ∙ sym (ap (λ n. n % R.modulus) (mul-zero _) ∙ mod-eq_of_lt (above_zero R)))

  pub coefficient-down : (k : ℕ) (p : Polynomial R) → coefficient R (down R k p) R.origin ≡ coefficient R p (R.y k)
  coefficient-down k p = sym (coefficient-linear_form R _ _) ∙ linear_form-down R (at_key R R.origin) k p
      ∙ (λ i. linear_form R (λ x. here x i) p) ∙ coefficient-linear_form R p (R.y k)
    where
      lowest : lower R k (R.y k) ≡ R.origin
      lowest = ap (lower R k) (sym (R.plus-comm _ _ ∙ R.origin-plus _)) ∙ up-lower R k R.origin

      here : (x : R.Key) → cond (leb k (R.y_degree x)) (at_key R R.origin (lower R k x)) 0 ≡ at_key R (R.y k) x
      here x = key_cases R (R.y k) x (λ b. cond (leb k (R.y_degree x)) (at_key R R.origin (lower R k x)) 0 ≡ cond b 1 0)
          (λ is. ap (λ z. cond (leb k (R.y_degree z)) (at_key R R.origin (lower R k z)) 0) (sym is)
          ∙ rw (R.y_degree-y, le-leb k k (omega arith)) (ap (at_key R R.origin) lowest
          ∙ ap (λ b. cond b 1 0) (itself R.compare R.total_order R.antisymmetric R.origin)))
          (λ differs. elim (leb k (R.y_degree x)) as (λ b. leb k (R.y_degree x) ≡ b
          → cond b (at_key R R.origin (lower R k x)) 0 ≡ 0) [
            | true ↦ λ high. key_cases R R.origin (lower R k x) (λ b. ◌≡◌ {A = ℕ} (cond b 1 0) 0)
                (λ e. absurd (differs (sym (R.plus-comm _ _ ∙ R.origin-plus _) ∙ ap (R.◌⊕◌ (R.y k)) e
                ∙ lower-up R k x (leb-true k _ high)))) (λ e. refl)
            | false ↦ λ high. refl
          ] refl)

  pub coefficient-truncated_constant : (D : ℕ) (p : Polynomial R) → coefficient R (truncated R R.degree D p) R.origin
      ≡ coefficient R p R.origin
  unfolding truncated
  coefficient-truncated_constant D p = coefficient-kept_terms R _ p R.origin
      ∙ ap (λ b. cond b (coefficient R p R.origin) 0) (ap (λ n. leb n D) R.degree_adds.1 ∙ le-leb 0 D (omega arith))

module _ (R : Ring) (d : R.Key → ℕ) where
  -- no entry of degree above D: as an equation, and by coefficients
  pub coefficient-above : (D : ℕ) (p : Polynomial R) → truncated R d D p ≡ p → (k : R.Key) → D < d k → coefficient R p k
      ≡ 0
  unfolding truncated
  coefficient-above D p e k h = sym (ap (λ q. coefficient R q k) e) ∙ coefficient-kept_terms R _ p k
      ∙ ap (λ b. cond b (coefficient R p k) 0) (lt-leb (d k) D h)

  pub none_above_is : (D : ℕ) (p : Polynomial R) → ((k : R.Key) → D < d k → coefficient R p k ≡ 0) → truncated R d D p
      ≡ p
  unfolding truncated
  none_above_is D p h = same_coefficients R _ _ (λ k. coefficient-kept_terms R _ p k
      ∙ (elim (leb (d k) D) as (λ b. leb (d k) D ≡ b → cond b (coefficient R p k) 0 ≡ coefficient R p k) [
        | true ↦ λ e. refl
        | false ↦ λ e. sym (h k (leb-false (d k) D e))
      ] refl))
