-- A map whose keys have degree r and no Y is a slice, and so is that of a slice.
use Rattle.std.proofs.Common.{◌≡◌, ℕ, ◌%◌, Bool, true, false, cond, refl, sym, ◌∙◌, ap}
use Rattle.std.specs.Prelude.{◌==◌, Option, Some, None}
use Rattle.std.specs.Option.{unwrap_or}
use Rattle.std.specs.FinMap.{FinMap, get}
use Rattle.std.proofs.Math.Nat.{mod-eq_of_lt}
use Rattle.std.proofs.lemmas.Bool.{eq-eqb}
use Rattle.ps_model.specs.Ring.{Ring}
use Rattle.ps_model.specs.Polynomial.{of_map}
use Rattle.ps_model.specs.Truncation.{homogeneous_part}
use Rattle.ps_model.specs.Bounds.{IsSlice}
use Rattle.ps_model.proofs.Coefficients.{same_coefficients, above_zero}
use Rattle.ps_model.proofs.Homogeneous.{IsHomogeneous}
use Rattle.ps_model.proofs.Origin.{coefficient-kept_terms}
use Rattle.ps_model.proofs.SliceValues.{slice_from}
use Rattle.ps_model.proofs.OfMap.{coefficient-of_map}

module _ (R : Ring) where
  homogeneous_from_terms : (d : R.Key → ℕ) (r : ℕ) (m : FinMap R.compare ℕ)
      → ((k : R.Key) (c : ℕ) → get m k ≡ Some c → d k ≡ r) → IsHomogeneous R d r (of_map R m)
  unfolding homogeneous_part
  homogeneous_from_terms d r m h = same_coefficients R _ _ (λ k. coefficient-kept_terms R _ (of_map R m) k
      ∙ (λ i. cond (d k == r) (coefficient-of_map R m k i) 0) ∙ there k (get m k) refl ∙ sym (coefficient-of_map R m k))
    where
      nothing : (b : Bool) → ◌≡◌ {A = ℕ} (cond b 0 0) 0
      nothing true = refl
      nothing false = refl

      there : (k : R.Key) (o : Option ℕ) → get m k ≡ o → cond (d k == r) (unwrap_or (get m k) 0 % R.modulus) 0
          ≡ unwrap_or (get m k) 0 % R.modulus
      there k None e = ap (λ n. cond (d k == r) n 0) (gone k e) ∙ nothing (d k == r) ∙ sym (gone k e)
        where
          gone : (k : R.Key) → get m k ≡ None → unwrap_or (get m k) 0 % R.modulus ≡ 0
          gone k e = ap (λ o. unwrap_or o 0 % R.modulus) e ∙ mod-eq_of_lt (above_zero R)
      there k (Some c) e = ap (λ b. cond b (unwrap_or (get m k) 0 % R.modulus) 0) (eq-eqb (d k) r (h k c e))

  pub slice_from_terms : (r : ℕ) (m : FinMap R.compare ℕ)
      → ((k : R.Key) (c : ℕ) → get m k ≡ Some c → (R.degree k ≡ r) × (R.y_degree k ≡ 0)) → IsSlice r (of_map R m)
  slice_from_terms r m h = slice_from R r (of_map R m) (homogeneous_from_terms R.degree r m (λ k c e. (h k c e).0))
      (homogeneous_from_terms R.y_degree 0 m (λ k c e. (h k c e).1))
