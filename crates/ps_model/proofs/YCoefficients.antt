-- The coefficients of powers of Y, as polynomials without Y.
use Rattle.std.proofs.Common.{◌≡◌, ℕ, ◌+◌, ◌*◌, ◌%◌, true, false, cond, List, [], ◌∷◌, refl, sym, ◌∙◌, ap, arith}
use Rattle.std.specs.Prelude.{◌==◌, if◌then◌else◌}
use Rattle.std.proofs.Math.Dec.{leb}
use Rattle.std.proofs.Math.Nat.{one-mul}
use Rattle.ps_model.specs.Ring.{Ring}
use Rattle.ps_model.specs.Sums.{total}
use Rattle.ps_model.specs.Polynomial.{Polynomial, polynomial, coefficient, monomial, product}
use Rattle.ps_model.specs.Truncation.{truncated, homogeneous_part}
use Rattle.ps_model.specs.Bounds.{HasNoPowerAbove}
use Rattle.ps_model.specs.Slices.{without_y, y_coefficient, slice_at}
use Rattle.ps_model.proofs.Coefficients.{same_values, linear_form-polynomial}
use Rattle.ps_model.proofs.Values.{linear_form-image, linear_form-monomial, linear_form-mod, linear_form-kept_terms}
use Rattle.ps_model.proofs.Truncations.{truncated-zero}
use Rattle.ps_model.proofs.Below.{below-homogeneous_part, homogeneous_part-homogeneous_part}
use Rattle.ps_model.proofs.Degrees.{kept_terms-commute}
use Rattle.ps_model.proofs.Division.{down, y_power, down-up, multiple, kept_terms-down, degree-lower}
use Rattle.ps_model.proofs.Origin.{coefficient-down}
use Rattle.ps_model.proofs.Slices.{without_y-down}
use Rattle.ps_model.proofs.Preparation.{degree-down}
use Rattle.ps_model.proofs.SliceValues.{y_degree-down, down-zero, slice_at-swap}
use Rattle.ps_model.proofs.TopTerms.{HasTop, at_top, monomial-product}

module _ (R : Ring) where
  pub y_coefficient-down : (j : ℕ) (p : Polynomial R) → y_coefficient R j p ≡ down R j
      (homogeneous_part R R.y_degree j p)
  unfolding y_coefficient
  y_coefficient-down j p = without_y-down R j p

  -- with its Y^j again
  pub up-y_coefficient : (j : ℕ) (p : Polynomial R) → product R (y_power R j) (y_coefficient R j p)
      ≡ homogeneous_part R R.y_degree j p
  up-y_coefficient j p = ap (product R (y_power R j)) (y_coefficient-down j p)
      ∙ multiple R j _ (below-homogeneous_part R R.y_degree j j p (omega arith))

  truncated-down : (D j : ℕ) (p : Polynomial R) → truncated R R.degree D (down R j p) ≡ down R j
      (truncated R R.degree D p)
  unfolding truncated
  truncated-down D j p = kept_terms-down R _ (λ x. leb (R.degree x) D) j p
      (λ x le. ap (λ n. leb n D) (degree-lower R j x))

  pub y_coefficient-truncated : (D j : ℕ) (p : Polynomial R) → y_coefficient R j (truncated R R.degree D p)
      ≡ truncated R R.degree D (y_coefficient R j p)
  y_coefficient-truncated D j p = y_coefficient-down j _ ∙ ap (down R j) swap ∙ sym (truncated-down D j _)
      ∙ ap (truncated R R.degree D) (sym (y_coefficient-down j p))
    where
      swap : homogeneous_part R R.y_degree j (truncated R R.degree D p) ≡ truncated R R.degree D
          (homogeneous_part R R.y_degree j p)
      swap = unfold truncated homogeneous_part in kept_terms-commute R _ _ p

  -- it has no Y
  pub y_coefficient-flat : (j : ℕ) (p : Polynomial R) → HasNoPowerAbove 0 (y_coefficient R j p)
  y_coefficient-flat j p = truncated-zero R R.y_degree _ ∙ ap (homogeneous_part R R.y_degree 0) as_part
      ∙ homogeneous_part-homogeneous_part R R.y_degree 0 _ ∙ sym as_part
    where
      as_part : y_coefficient R j p ≡ homogeneous_part R R.y_degree 0 (down R j p)
      as_part = y_coefficient-down j p ∙ sym (y_degree-down R j p)

  pub constant-y_coefficient : (j : ℕ) (p : Polynomial R) → coefficient R (y_coefficient R j p) R.origin
      ≡ coefficient R p (R.y j)
  constant-y_coefficient j p = ap (λ q. coefficient R q R.origin) (y_coefficient-down j p)
      ∙ coefficient-down R j _ ∙ at_top R j p (R.y j) (R.y_degree-y j)

  -- where it is a number
  pub y_coefficient-top : (j l : ℕ) (p : Polynomial R) → HasTop R j l p → y_coefficient R j p ≡ monomial R l R.origin
  y_coefficient-top j l p top = y_coefficient-down j p ∙ ap (down R j) (top ∙ sym raised) ∙ down-up R j _
    where
      raised : product R (y_power R j) (monomial R l R.origin) ≡ monomial R l (R.y j)
      raised = monomial-product R 1 l (R.y j) R.origin
          ∙ (λ i. monomial R (one_times l i) ((R.plus-comm (R.y j) R.origin ∙ R.origin-plus (R.y j)) i))
        where
          one_times : (l : ℕ) → 1 * l ≡ l
          one_times l = omega arith

  -- its slices are those at Y^j
  pub slice_at-y_coefficient : (r j : ℕ) (p : Polynomial R) → slice_at R r 0 (y_coefficient R j p) ≡ slice_at R r j p
  slice_at-y_coefficient r j p = slice_at-swap R r 0 (y_coefficient R j p) ∙ down-zero R _
      ∙ ap (homogeneous_part R R.degree r) (sym (truncated-zero R R.y_degree _) ∙ y_coefficient-flat j p
      ∙ y_coefficient-down j p)
      ∙ degree-down R r j _ ∙ sym (slice_at-swap R r j p)

  -- of a formal sum: the entries with Y^j, without it
  abbrev pub y_entries : ℕ → List (R.Key × ℕ) → List (R.Key × ℕ)
  y_entries j [] = []
  y_entries j (e ∷ es) = if R.y_degree e.0 == j then (R.rest e.0, e.1) ∷ y_entries j es else y_entries j es

  total-y_entries : (f : R.Key → ℕ) (j : ℕ) (es : List (R.Key × ℕ)) → total f (y_entries j es)
      ≡ total (λ x. cond (R.y_degree x == j) (f (R.rest x)) 0) es
  total-y_entries f j [] = refl
  total-y_entries f j (e ∷ es) = elim (R.y_degree e.0 == j) as (λ b.
      total f (if b then (R.rest e.0, e.1) ∷ y_entries j es else y_entries j es)
      ≡ e.1 * cond b (f (R.rest e.0)) 0 + total (λ x. cond (R.y_degree x == j) (f (R.rest x)) 0) es) [
        | true ↦ ap (λ n. e.1 * f (R.rest e.0) + n) (total-y_entries f j es)
        | false ↦ total-y_entries f j es ∙ nothing e.1 _
      ]
    where
      nothing : (c n : ℕ) → n ≡ c * 0 + n
      nothing c n = omega arith

  pub y_coefficient_listed : (j : ℕ) (es : List (R.Key × ℕ)) → y_coefficient R j (polynomial R es)
      ≡ polynomial R (y_entries j es)
  unfolding y_coefficient without_y homogeneous_part
  y_coefficient_listed j es = same_values R _ _ (λ f. simp (linear_form-image, linear_form-monomial, one-mul)
      (linear_form-mod R _ _ ∙ linear_form-kept_terms R _ _ (polynomial R es)
      ∙ linear_form-polynomial R (λ x. cond (R.y_degree x == j) (f (R.rest x)) 0) es
      ∙ ap (λ n. n % R.modulus) (sym (total-y_entries f j es)) ∙ sym (linear_form-polynomial R f (y_entries j es))))
