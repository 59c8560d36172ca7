-- Slices of a shifted polynomial, and rows of it.
use Rattle.std.proofs.Common.{◌≡◌, ℕ, zero, suc, ◌+◌, ◌-◌, ◌*◌, ◌%◌, ◌^◌, ◌<◌, Bool, true, false, cond, refl, sym}
use Rattle.std.proofs.Common.{◌∙◌}
use Rattle.std.proofs.Common.{ap, arith, inl, inr}
use Rattle.std.specs.Prelude.{◌==◌}
use Rattle.std.proofs.Math.Dec.{leb}
use Rattle.std.proofs.Math.Nat.{add-mod, mod-eq_of_lt}
use Rattle.std.proofs.lemmas.Nat.{mul-mod_first}
use Rattle.std.proofs.lemmas.Bool.{cases_lt, leb-true, le-leb, eq-eqb, eqb-true}
use Rattle.ps_model.specs.Ring.{Ring}
use Rattle.ps_model.specs.Polynomial.{Polynomial, zero as nought, coefficient, monomial, sum, scaled, kept_terms}
use Rattle.ps_model.specs.Polynomial.{image}
use Rattle.ps_model.specs.Polynomial.{sum_to, sum_between}
use Rattle.ps_model.specs.Truncation.{homogeneous_part}
use Rattle.ps_model.specs.Shift.{shifted, binomial, numbers_to}
use Rattle.ps_model.specs.Bounds.{HasNoPowerAbove}
use Rattle.ps_model.specs.Bounds.{IsSlice}
use Rattle.ps_model.specs.Slices.{without_y, slice_at}
use Rattle.ps_model.proofs.Coefficients.{linear_form, at_key, itself, same_values, same_coefficients}
use Rattle.ps_model.proofs.Coefficients.{coefficient-linear_form, above_zero}
use Rattle.ps_model.proofs.Values.{linear_form-sum, linear_form-scaled, linear_form-nil}
use Rattle.ps_model.proofs.RingLaws.{zero-sum}
use Rattle.ps_model.proofs.SumsBetween.{sum_between-none, sum_between-zero, sum_between-split, sum_to-between}
use Rattle.ps_model.proofs.KeptTerms.{kept_terms-scaled}
use Rattle.ps_model.proofs.Images.{image-scaled}
use Rattle.ps_model.proofs.Below.{truncated-below}
use Rattle.ps_model.proofs.Division.{down, lower, lower-up, up-lower, linear_form-down}
use Rattle.ps_model.proofs.Origin.{key_cases, coefficient-kept_terms}
use Rattle.ps_model.proofs.Binomials.{coefficient-shifted, binomial-above, numbers-same}
use Rattle.ps_model.proofs.Slices.{slice_at-sum}
use Rattle.ps_model.proofs.SliceValues.{slice_at-as_down, slice_at-IsSlice, slice_degree, slice_y_degree}

module _ (R : Ring) where
  pub coefficient-sum : (p q : Polynomial R) (k : R.Key) → coefficient R (sum R p q) k
      ≡ (coefficient R p k + coefficient R q k) % R.modulus
  coefficient-sum p q k = sym (coefficient-linear_form R _ k) ∙ linear_form-sum R (at_key R k) p q
      ∙ λ i. (coefficient-linear_form R p k i + coefficient-linear_form R q k i) % R.modulus

  pub coefficient-scaled : (c : ℕ) (p : Polynomial R) (k : R.Key) → coefficient R (scaled R c p) k
      ≡ (c * coefficient R p k) % R.modulus
  coefficient-scaled c p k = sym (coefficient-linear_form R _ k) ∙ linear_form-scaled R (at_key R k) c p
      ∙ ap (λ n. (c * n) % R.modulus) (coefficient-linear_form R p k)

  pub scaled-residue : (c : ℕ) (p : Polynomial R) → scaled R (c % R.modulus) p ≡ scaled R c p
  scaled-residue c p = same_values R _ _ (λ f. simp linear_form-scaled (mul-mod_first c (linear_form R f p) R.modulus))

  pub scaled-zero : (c : ℕ) (p : Polynomial R) → c ≡ 0 → scaled R c p ≡ nought R
  scaled-zero c p e = same_values R _ _ (λ f. linear_form-scaled R f c p ∙ ap (λ n. (n * linear_form R f p) % R.modulus)
      e ∙ ap (λ n. n % R.modulus) (none (linear_form R f p)) ∙ mod-eq_of_lt (above_zero R) ∙ sym (linear_form-nil R f))
    where
      none : (n : ℕ) → 0 * n ≡ 0
      none n = omega arith

  pub scaled-nothing : (c : ℕ) → scaled R c (nought R) ≡ nought R
  scaled-nothing c = same_values R _ _ (λ f. linear_form-scaled R f c _ ∙ ap (λ n. (c * n) % R.modulus)
      (linear_form-nil R f) ∙ ap (λ n. n % R.modulus) (none c) ∙ mod-eq_of_lt (above_zero R)
      ∙ sym (linear_form-nil R f))
    where
      none : (n : ℕ) → n * 0 ≡ 0
      none n = omega arith

  pub coefficient-sums : (K : ℕ) (t : ℕ → ℕ) (P : ℕ → Polynomial R) (k : R.Key)
      → coefficient R (sum_to R K (λ j. scaled R (t j) (P j))) k ≡ numbers_to K (λ j. t j * coefficient R (P j) k) %
      R.modulus
  coefficient-sums zero t P k = coefficient-scaled (t 0) (P 0) k
  coefficient-sums (suc K) t P k = coefficient-sum _ _ k
      ∙ (λ i. (coefficient-sums K t P k i + coefficient-scaled (t (suc K)) (P (suc K)) k i) % R.modulus)
      ∙ sym (add-mod _ _ R.modulus)

module _ (R : Ring) where
  coefficient-down_at : (j : ℕ) (p : Polynomial R) (x : R.Key) → coefficient R (down R j p) x ≡ coefficient R p
      (R.◌⊕◌ (R.y j) x)
  coefficient-down_at j p x = sym (coefficient-linear_form R _ x) ∙ linear_form-down R (at_key R x) j p
      ∙ (λ i. linear_form R (λ z. here z i) p) ∙ coefficient-linear_form R p (R.◌⊕◌ (R.y j) x)
    where
      enough : leb j (R.y_degree (R.◌⊕◌ (R.y j) x)) ≡ true
      enough = le-leb j _ (let e = R.y_degree_adds.0 (R.y j) x in let y = R.y_degree-y j in omega arith)

      here : (z : R.Key) → cond (leb j (R.y_degree z)) (at_key R x (lower R j z)) 0 ≡ at_key R (R.◌⊕◌ (R.y j) x) z
      here z = key_cases R (R.◌⊕◌ (R.y j) x) z (λ b. cond (leb j (R.y_degree z)) (at_key R x (lower R j z)) 0
          ≡ cond b 1 0)
          (λ is. ap (λ z. cond (leb j (R.y_degree z)) (at_key R x (lower R j z)) 0) (sym is)
          ∙ ap (λ b. cond b (at_key R x (lower R j (R.◌⊕◌ (R.y j) x))) 0) enough ∙ ap (at_key R x) (up-lower R j x)
          ∙ ap (λ b. cond b 1 0) (itself R.compare R.total_order R.antisymmetric x))
          (λ differs. elim (leb j (R.y_degree z)) as (λ b. leb j (R.y_degree z) ≡ b
          → cond b (at_key R x (lower R j z)) 0 ≡ 0) [
            | true ↦ λ high. key_cases R x (lower R j z) (λ b. ◌≡◌ {A = ℕ} (cond b 1 0) 0)
                (λ e. absurd (differs (ap (R.◌⊕◌ (R.y j)) e ∙ lower-up R j z (leb-true j _ high)))) (λ e. refl)
            | false ↦ λ high. refl
          ] refl)

  -- the coefficients of a slice
  pub coefficient-slice : (r j : ℕ) (p : Polynomial R) (x : R.Key) → R.degree x ≡ r → R.y_degree x ≡ 0
      → coefficient R (slice_at R r j p) x ≡ coefficient R p (R.◌⊕◌ x (R.y j))
  unfolding homogeneous_part
  coefficient-slice r j p x hd hy = ap (λ t. coefficient R t x) (slice_at-as_down R r j p)
      ∙ coefficient-kept_terms R _ _ x
      ∙ ap (λ b. cond b (coefficient R (homogeneous_part R R.degree r (down R j p)) x) 0) (eq-eqb _ 0 hy)
      ∙ coefficient-kept_terms R _ _ x ∙ ap (λ b. cond b (coefficient R (down R j p) x) 0) (eq-eqb _ r hd)
      ∙ coefficient-down_at j p x ∙ ap (coefficient R p) (R.plus-comm _ x)

  -- slices are equal if their coefficients at keys of their degree and without Y are
  pub same_slice : (r : ℕ) (p q : Polynomial R) → IsSlice r p → IsSlice r q
      → ((x : R.Key) → R.degree x ≡ r → R.y_degree x ≡ 0 → coefficient R p x ≡ coefficient R q x) → p ≡ q
  unfolding homogeneous_part
  same_slice r p q hp hq same = same_coefficients R p q (λ x. at p hp x ∙ chosen x (R.degree x == r) (R.y_degree x == 0)
      refl refl ∙ sym (at q hq x))
    where
      at : (p : Polynomial R) → IsSlice r p → (x : R.Key) → coefficient R p x ≡ cond (R.degree x == r)
          (cond (R.y_degree x == 0) (coefficient R p x) 0) 0
      at p hp x = ap (λ t. coefficient R t x) (sym (slice_degree R r p hp)) ∙ coefficient-kept_terms R _ p x
          ∙ ap (λ n. cond (R.degree x == r) n 0) (ap (λ t. coefficient R t x) (sym (slice_y_degree R r p hp))
          ∙ coefficient-kept_terms R _ p x)

      chosen : (x : R.Key) (b c : Bool) → (R.degree x == r) ≡ b → (R.y_degree x == 0) ≡ c
          → cond b (cond c (coefficient R p x) 0) 0 ≡ cond b (cond c (coefficient R q x) 0) 0
      chosen x true true hb hc = same x (eqb-true _ _ hb) (eqb-true _ _ hc)
      chosen x true false hb hc = refl
      chosen x false c hb hc = refl

  pub slice-sum : (r : ℕ) (p q : Polynomial R) → IsSlice r p → IsSlice r q → IsSlice r (sum R p q)
  slice-sum r p q hp hq = slice_at-sum R r 0 p q ∙ λ i. sum R (hp i) (hq i)

  pub slice-scaled : (r c : ℕ) (p : Polynomial R) → IsSlice r p → IsSlice r (scaled R c p)
  unfolding slice_at without_y homogeneous_part
  slice-scaled r c p hp = ap (λ t. image R (λ x. monomial R 1 (R.rest x)) (kept_terms R (λ x. R.y_degree x == 0) t))
      (kept_terms-scaled R _ c p)
      ∙ ap (image R (λ x. monomial R 1 (R.rest x))) (kept_terms-scaled R _ c _) ∙ image-scaled R _ c _
      ∙ ap (scaled R c) hp

  slice-sums : (r K : ℕ) (t : ℕ → ℕ) (P : ℕ → Polynomial R) → ((j : ℕ) → IsSlice r (P j))
      → IsSlice r (sum_to R K (λ j. scaled R (t j) (P j)))
  slice-sums r zero t P h = slice-scaled r (t 0) (P 0) (h 0)
  slice-sums r (suc K) t P h = slice-sum r _ _ (slice-sums r K t P h)
      (slice-scaled r (t (suc K)) (P (suc K)) (h (suc K)))

  slice_at-shifted_to : (c K r i : ℕ) (p : Polynomial R) → HasNoPowerAbove K p → slice_at R r i (shifted R c p)
      ≡ sum_to R K (λ j. scaled R (binomial j i * c ^ (j - i)) (slice_at R r j p))
  slice_at-shifted_to c K r i p hp = same_slice r _ _ (slice_at-IsSlice R r i _)
      (slice-sums r K _ _ (λ j. slice_at-IsSlice R r j p))
      (λ x hd hy. coefficient-slice r i _ x hd hy ∙ coefficient-shifted R c K p (sym (truncated-below R R.y_degree K p)
      ∙ hp) x i hy
      ∙ sym (coefficient-sums R K _ _ x
      ∙ ap (λ n. n % R.modulus)
      (numbers-same K _ _ (λ j le. ap (λ n. (binomial j i * c ^ (j - i)) * n) (coefficient-slice r j p x hd hy)))))

  -- the slice of a shifted polynomial at Y^i, from the slices at Y^i and above
  pub slice_at-shifted : (c K r i : ℕ) (p : Polynomial R) → HasNoPowerAbove K p
      → slice_at R r i (shifted R c p) ≡ sum_between R i (suc K)
      (λ j. scaled R (binomial j i * c ^ (j - i)) (slice_at R r j p))
  slice_at-shifted c K r i p hp = slice_at-shifted_to c K r i p hp ∙ sum_to-between R K _ ∙ skipped
    where
      term : ℕ → Polynomial R
      term j = scaled R (binomial j i * c ^ (j - i)) (slice_at R r j p)

      low : (j : ℕ) → j < i → term j ≡ nought R
      low j lt = scaled-zero R _ _ (let e = binomial-above j i lt in ap (λ n. n * c ^ (j - i)) e ∙ omega arith)

      skipped : sum_between R 0 (suc K) term ≡ sum_between R i (suc K) term
      skipped = elim (cases_lt (suc K) i) as (λ _. sum_between R 0 (suc K) term ≡ sum_between R i (suc K) term) [
        | inl lt ↦ sum_between-zero R 0 (suc K) term (λ j _ h. low j (omega arith))
            ∙ sym (sum_between-none R i (suc K) term (omega arith))
        | inr ge ↦ sum_between-split R 0 i (suc K) term (omega arith) ge
            ∙ ap (λ t. sum R t (sum_between R i (suc K) term)) (sum_between-zero R 0 i term (λ j _ h. low j h))
            ∙ zero-sum R _
      ]
