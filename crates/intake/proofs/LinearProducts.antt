-- Coefficients of powers of Y, over any number of variables: of 1, and of a product with Y + c.
use Rattle.std.proofs.Common.{◌≡◌, ℕ, zero, suc, ◌+◌, ◌*◌, ◌%◌, Bool, true, false, cond, refl, sym, ◌∙◌, ap, arith}
use Rattle.std.specs.Ordering.{eq_by_cmp}
use Rattle.std.proofs.Math.Nat.{mod-eq_of_lt}
use Rattle.ps_model.specs.Keys.{Key, add_keys, y_key, key_compare}
use Rattle.ps_model.specs.KeyLaws.{no_powers-add, key_compare_total, key_compare-IsAntisymmetric}
use Rattle.ps_model.specs.Polynomial.{coefficient, one, product}
use Rattle.ps_model.specs.Shift.{linear}
use Rattle.ps_model.specs.SeriesRing.{SeriesRing, ring, Poly}
use Rattle.ps_model.proofs.Coefficients.{at, tie, itself, linear_form, linear_form-polynomial}
use Rattle.ps_model.proofs.Coefficients.{coefficient-linear_form, above_zero}
use Rattle.ps_model.proofs.Values.{linear_form-none, linear_form-one, linear_form-product}
use Rattle.ps_model.proofs.AtOrigin.{linear_entries, linear_listed}

-- numbers one place higher
abbrev pub lower : (ℕ → ℕ) → ℕ → ℕ
lower f zero = 0
lower f (suc p) = f p

same_bools : (x y : Bool) → (x ≡ true → y ≡ true) → (y ≡ true → x ≡ true) → x ≡ y
same_bools true true to from = refl
same_bools true false to from = sym (to refl)
same_bools false true to from = from refl
same_bools false false to from = refl

not_true : (x : Bool) → (x ≡ true → ⊥) → x ≡ false
not_true x never = elim x as (λ b. (b ≡ true → ⊥) → b ≡ false) [
  | true ↦ λ h. absurd (h refl)
  | false ↦ λ h. refl
] never

module _ (S : SeriesRing) where
  same_key : (x z : Key S.variables) → eq_by_cmp (key_compare S.variables) x z ≡ true → x ≡ z
  same_key x z e = tie (key_compare S.variables) (key_compare_total S.variables)
      (key_compare-IsAntisymmetric S.variables) x z e

  key_itself : (x z : Key S.variables) → x ≡ z → eq_by_cmp (key_compare S.variables) x z ≡ true
  key_itself x z e = rw e (itself (key_compare S.variables) (key_compare_total S.variables)
      (key_compare-IsAntisymmetric S.variables) z)

  -- Y * z is Y^(p + 1) where z is Y^p, and never 1
  raised_key : (p : ℕ) (z : Key S.variables) → at (key_compare S.variables) (y_key S.variables (suc p))
      (add_keys S.variables (y_key S.variables 1) z) ≡ at (key_compare S.variables) (y_key S.variables p) z
  raised_key p z = ap (λ b. cond b 1 0) (same_bools _ _
      (λ e. key_itself _ _ (down (same_key _ _ e))) (λ e. key_itself _ _ (up (same_key _ _ e))))
    where
      down : y_key S.variables (suc p) ≡ add_keys S.variables (y_key S.variables 1) z → y_key S.variables p ≡ z
      down e = λ i. record {
        powers = (ap (λ (k : Key S.variables). k.powers) e ∙ no_powers-add S.variables z.powers) i;
        y = (one_less (ap (λ (k : Key S.variables). k.y) e)) i;
      }
        where
          one_less : suc p ≡ 1 + z.y → p ≡ z.y
          one_less h = omega arith

      up : y_key S.variables p ≡ z → y_key S.variables (suc p) ≡ add_keys S.variables (y_key S.variables 1) z
      up e = λ i. record {
        powers = (ap (λ (k : Key S.variables). k.powers) e ∙ sym (no_powers-add S.variables z.powers)) i;
        y = (one_more (ap (λ (k : Key S.variables). k.y) e)) i;
      }
        where
          one_more : p ≡ z.y → suc p ≡ 1 + z.y
          one_more h = omega arith

  raised_origin : (z : Key S.variables) → at (key_compare S.variables) (y_key S.variables 0)
      (add_keys S.variables (y_key S.variables 1) z) ≡ 0
  raised_origin z = ap (λ b. cond b 1 0) (not_true _ (λ e. never (ap (λ (k : Key S.variables). k.y) (same_key _ _ e))))
    where
      never : 0 ≡ 1 + z.y → ⊥
      never h = omega arith

  abbrev pub y_coefficient : Poly S → ℕ → ℕ
  y_coefficient q p = coefficient (ring S) q (y_key S.variables p)

  -- the coefficients of 1
  pub one-zero : y_coefficient (one (ring S)) 0 ≡ 1
  one-zero = sym (coefficient-linear_form (ring S) (one (ring S)) (y_key S.variables 0))
      ∙ linear_form-one (ring S) (at (key_compare S.variables) (y_key S.variables 0))
      ∙ ap (λ b. cond b 1 0 % S.modulus) (key_itself (y_key S.variables 0) (y_key S.variables 0) refl)
      ∙ mod-eq_of_lt (let two = S.at_least_two in omega arith)

  pub one-suc : (p : ℕ) → y_coefficient (one (ring S)) (suc p) ≡ 0
  one-suc p = sym (coefficient-linear_form (ring S) (one (ring S)) (y_key S.variables (suc p)))
      ∙ linear_form-one (ring S) (at (key_compare S.variables) (y_key S.variables (suc p)))
      ∙ ap (λ b. cond b 1 0 % S.modulus)
      (not_true _ (λ e. never (ap (λ (k : Key S.variables). k.y) (same_key _ _ e))))
      ∙ mod-eq_of_lt (above_zero (ring S))
    where
      never : suc p ≡ 0 → ⊥
      never h = omega arith

  form : Poly S → ℕ → Key S.variables → ℕ
  form q p x = linear_form (ring S) (λ z. at (key_compare S.variables) (y_key S.variables p)
      (add_keys S.variables x z)) q

  form_y : (q : Poly S) (p : ℕ) → form q p (y_key S.variables 1) ≡ lower (y_coefficient q) p
  unfolding form
  form_y q zero = (λ i. linear_form (ring S) (λ z. raised_origin z i) q) ∙ linear_form-none (ring S) q
  form_y q (suc p) = (λ i. linear_form (ring S) (λ z. raised_key p z i) q)
      ∙ coefficient-linear_form (ring S) q (y_key S.variables p)

  form_one : (q : Poly S) (p : ℕ) → form q p (y_key S.variables 0) ≡ y_coefficient q p
  unfolding form
  form_one q p = (λ i. linear_form (ring S) (λ z. at (key_compare S.variables) (y_key S.variables p)
      ((ring S).origin-plus z i)) q) ∙ coefficient-linear_form (ring S) q (y_key S.variables p)

  -- the coefficient of Y^p of (Y + c) * q
  pub product_linear : (c : ℕ) (q : Poly S) (p : ℕ) → y_coefficient (product (ring S) (linear (ring S) c) q) p
      ≡ (lower (y_coefficient q) p + c * y_coefficient q p) % S.modulus
  unfolding form
  product_linear c q p = sym (coefficient-linear_form (ring S) _ (y_key S.variables p))
      ∙ linear_form-product (ring S) _ (linear (ring S) c) q
      ∙ ap (linear_form (ring S) (form q p)) (linear_listed S c)
      ∙ linear_form-polynomial (ring S) (form q p) (linear_entries S c)
      ∙ ap (λ n. n % S.modulus) (added _ _ _ _ (form_y q p) (form_one q p))
    where
      added : (a b x z : ℕ) → a ≡ x → b ≡ z → 1 * a + (c * b + 0) ≡ x + c * z
      added a b x z d e = rw (d, e) (omega arith)
