-- The shift of a formal sum.
use Rattle.std.proofs.Common.{◌≡◌, ℕ, List, [], ◌∷◌, ◌++◌, sym, ◌∙◌, ap}
use Rattle.ps_model.specs.Keys.{Key}
use Rattle.ps_model.specs.Polynomial.{polynomial, sum, product, power, scaled}
use Rattle.ps_model.specs.SeriesRing.{SeriesRing, ring}
use Rattle.ps_model.specs.Shift.{shifted_key, shifted}
use Rattle.ps_model.specs.Sums.{multiples}
use Rattle.ps_model.proofs.FormalSums.{zero_listed, monomial_listed, sum_listed, scaled_listed, product_listed}
use Rattle.ps_model.proofs.Evaluated.{times, power_entries, power_listed}
use Rattle.ps_model.proofs.AtOrigin.{linear_entries, linear_listed}
use Rattle.ps_model.proofs.Images.{image-zero}
use Rattle.ps_model.proofs.Shifts.{shifted-sum, shifted-monomial}

module _ (S : SeriesRing) (c : ℕ) where
  abbrev pub key_entries : Key S.variables → List (Key S.variables × ℕ)
  key_entries k = times S (((ring S).rest k, 1) ∷ []) (power_entries S (linear_entries S c) k.y)

  key_listed : (k : Key S.variables) → shifted_key (ring S) c k ≡ polynomial (ring S) (key_entries k)
  unfolding shifted_key
  key_listed k = (λ i. product (ring S) (monomial_listed (ring S) 1 ((ring S).rest k) i)
      ((ap (λ p. power (ring S) p k.y) (linear_listed S c) ∙ power_listed S (linear_entries S c) k.y) i))
      ∙ product_listed (ring S) _ _

  abbrev pub shifted_entries : List (Key S.variables × ℕ) → List (Key S.variables × ℕ)
  shifted_entries [] = []
  shifted_entries (e ∷ es) = multiples e.1 (key_entries e.0) ++ shifted_entries es

  -- the shift of one term
  term_listed : (e : Key S.variables × ℕ) → shifted (ring S) c (polynomial (ring S) (e ∷ []))
      ≡ polynomial (ring S) (multiples e.1 (key_entries e.0))
  term_listed e = ap (shifted (ring S) c) (sym (monomial_listed (ring S) e.1 e.0))
      ∙ shifted-monomial (ring S) c e.1 e.0 ∙ ap (scaled (ring S) e.1) (key_listed e.0)
      ∙ scaled_listed (ring S) e.1 (key_entries e.0)

  none_listed : shifted (ring S) c (polynomial (ring S) []) ≡ polynomial (ring S) []
  unfolding shifted
  none_listed = ap (shifted (ring S) c) (sym (zero_listed (ring S))) ∙ image-zero (ring S) (shifted_key (ring S) c)
      ∙ zero_listed (ring S)

  pub shifted_listed : (es : List (Key S.variables × ℕ)) → shifted (ring S) c (polynomial (ring S) es)
      ≡ polynomial (ring S) (shifted_entries es)
  shifted_listed [] = none_listed
  shifted_listed (e ∷ es) = ap (shifted (ring S) c) (sym (sum_listed (ring S) (e ∷ []) es))
      ∙ shifted-sum (ring S) c _ _ ∙ (λ i. sum (ring S) (term_listed e i) (shifted_listed es i))
      ∙ sum_listed (ring S) _ _
