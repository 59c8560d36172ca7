-- The shift keeps degrees, so that it commutes with truncations.
use Rattle.std.proofs.Common.{◌≡◌, ℕ, ◌+◌, Bool, true, false, cond, ◌&&◌, refl, sym, ◌∙◌, ap, add-zero}
use Rattle.std.specs.Prelude.{◌==◌}
use Rattle.std.proofs.Math.Dec.{leb}
use Rattle.std.proofs.lemmas.Bool.{eqb-true}
use Rattle.std.proofs.Math.Bool.{and-true, and-false}
use Rattle.ps_model.specs.Ring.{Ring}
use Rattle.ps_model.specs.Truncation.{truncated, homogeneous_part}
use Rattle.ps_model.specs.Shift.{linear, shifted_key, shifted}
use Rattle.ps_model.specs.Polynomial.{Polynomial, zero as nought, monomial, power, kept_terms}
use Rattle.ps_model.proofs.KeptTerms.{kept_terms-kept_terms}
use Rattle.ps_model.proofs.Truncations.{kept_terms-never}
use Rattle.ps_model.proofs.Images.{kept_terms-image}
use Rattle.ps_model.proofs.Homogeneous.{IsHomogeneous, homogeneous-monomial, homogeneous-sum, homogeneous-product}
use Rattle.ps_model.proofs.Homogeneous.{homogeneous-power}

module _ (R : Ring) where
  degree_of-rest : (x : R.Key) → R.degree (R.rest x) ≡ R.degree x
  degree_of-rest x = sym (ap R.degree (sym (R.rest-y x)) ∙ R.degree_adds.0 _ _ ∙ ap (λ n. R.degree (R.rest x) + n)
      (R.degree-y _) ∙ add-zero _)

  pub homogeneous-linear : (c : ℕ) → IsHomogeneous R R.degree 0 (linear R c)
  unfolding linear
  homogeneous-linear c = homogeneous-sum R R.degree 0 _ _
      (ap (λ r. homogeneous_part R R.degree r (monomial R 1 (R.y 1))) (sym (R.degree-y 1))
      ∙ homogeneous-monomial R R.degree 1 (R.y 1))
      (ap (λ r. homogeneous_part R R.degree r (monomial R c R.origin)) (sym R.degree_adds.1)
      ∙ homogeneous-monomial R R.degree c R.origin)

  pub homogeneous-shifted_key : (c : ℕ) (x : R.Key) → IsHomogeneous R R.degree (R.degree x) (shifted_key R c x)
  unfolding shifted_key
  homogeneous-shifted_key c x =
      let r = homogeneous-product R R.degree R.degree_adds (R.degree x) 0 (monomial R 1 (R.rest x))
      (power R (linear R c) (R.y_degree x))
      (ap (λ r. homogeneous_part R R.degree r (monomial R 1 (R.rest x))) (sym (degree_of-rest x))
      ∙ homogeneous-monomial R R.degree 1 (R.rest x))
      (homogeneous-power R R.degree R.degree_adds (R.y_degree x) (linear R c) (homogeneous-linear c)) in
      ap (λ n. homogeneous_part R R.degree n (shifted_key R c x)) (sym (add-zero (R.degree x))) ∙ r

  -- a test of the degree alone
  pub kept_terms-shifted : (t : ℕ → Bool) (c : ℕ) (p : Polynomial R) → kept_terms R (λ x. t (R.degree x))
      (shifted R c p) ≡ shifted R c (kept_terms R (λ x. t (R.degree x)) p)
  unfolding shifted homogeneous_part
  kept_terms-shifted t c p = kept_terms-image R _ (shifted_key R c)
      (λ x. ap (kept_terms R (λ x. t (R.degree x))) (sym (homogeneous-shifted_key c x))
      ∙ tested (R.degree x) (shifted_key R c x) ∙ ap (λ q. cond (t (R.degree x)) q (nought R))
      (homogeneous-shifted_key c x)) p
    where
      test : (r a : ℕ) (b : Bool) → (a == r) ≡ b → (b && t a) ≡ (b && t r)
      test r a true e = ap t (eqb-true a r e)
      test r a false e = refl

      tested : (r : ℕ) (q : Polynomial R) → kept_terms R (λ x. t (R.degree x)) (homogeneous_part R R.degree r q)
          ≡ cond (t r) (homogeneous_part R R.degree r q) (nought R)
      tested r q = kept_terms-kept_terms R _ _ q
          ∙ (λ i. kept_terms R (λ x. test r (R.degree x) (R.degree x == r) refl i) q)
          ∙ elim (t r) as (λ b. kept_terms R (λ x. (R.degree x == r) && b) q
          ≡ cond b (kept_terms R (λ x. R.degree x == r) q) (nought R)) [
            | true ↦ (λ i. kept_terms R (λ x. and-true (R.degree x == r) i) q)
            | false ↦
                (λ i. kept_terms R (λ x. and-false (R.degree x == r) i) q) ∙ kept_terms-never R R.degree q
          ]

  pub truncated-shifted : (D c : ℕ) (p : Polynomial R) → truncated R R.degree D (shifted R c p)
      ≡ shifted R c (truncated R R.degree D p)
  unfolding truncated
  truncated-shifted D c p = kept_terms-shifted (λ r. leb r D) c p

  pub homogeneous_part-shifted : (r c : ℕ) (p : Polynomial R) → homogeneous_part R R.degree r (shifted R c p)
      ≡ shifted R c (homogeneous_part R R.degree r p)
  unfolding homogeneous_part
  homogeneous_part-shifted r c p = kept_terms-shifted (λ s. s == r) c p
