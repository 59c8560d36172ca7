-- The coefficients of powers of Y of sums, multiples, products and quotients.
use Rattle.std.proofs.Common.{◌≡◌, ℕ, ◌-◌, ◌<◌, ◌≤◌, false, ◌&&◌, sym, ◌∙◌, ap, arith}
use Rattle.std.specs.Prelude.{◌==◌}
use Rattle.std.proofs.Math.Dec.{leb}
use Rattle.std.proofs.lemmas.Bool.Decides.{nat_tests}
use Rattle.ps_model.specs.Ring.{Ring}
use Rattle.ps_model.specs.Polynomial.{Polynomial, zero as nought, one, monomial, sum, scaled, product, sum_to}
use Rattle.ps_model.specs.Polynomial.{kept_terms}
use Rattle.ps_model.specs.Truncation.{truncated, homogeneous_part}
use Rattle.ps_model.specs.Slices.{y_coefficient}
use Rattle.ps_model.specs.Bounds.{HasNoPowerAbove}
use Rattle.ps_model.specs.Prepared.{IsQuotient}
use Rattle.ps_model.proofs.RingLaws.{product-comm, product-assoc, product-zero, product-four, one-product}
use Rattle.ps_model.proofs.KeptTerms.{kept_terms-kept_terms}
use Rattle.ps_model.proofs.Truncations.{truncated-zero, homogeneous_part-sum, homogeneous_part-product}
use Rattle.ps_model.proofs.Truncations.{homogeneous_part-product_of, kept_terms-never, sum_to-same}
use Rattle.ps_model.proofs.Division.{down, y_power, down-up}
use Rattle.ps_model.proofs.Images.{monomial-plus}
use Rattle.ps_model.proofs.PowerBounds.{truncated-monomial}
use Rattle.ps_model.proofs.Slices.{down-sum, down-sum_to}
use Rattle.ps_model.proofs.TopTerms.{number-product}
use Rattle.ps_model.proofs.YCoefficients.{y_coefficient-down, up-y_coefficient, y_coefficient-truncated}

module _ (R : Ring) where
  pub y_coefficient-sum : (j : ℕ) (p q : Polynomial R) → y_coefficient R j (sum R p q)
      ≡ sum R (y_coefficient R j p) (y_coefficient R j q)
  y_coefficient-sum j p q = y_coefficient-down R j _ ∙ ap (down R j) (homogeneous_part-sum R R.y_degree j p q)
      ∙ down-sum R j _ _ ∙ (λ i. sum R (sym (y_coefficient-down R j p) i) (sym (y_coefficient-down R j q) i))

  down-nothing : (j : ℕ) → down R j (nought R) ≡ nought R
  down-nothing j = ap (down R j) (sym (product-zero R (y_power R j))) ∙ down-up R j (nought R)

  -- past the greatest power of Y
  pub y_coefficient-above : (K j : ℕ) (p : Polynomial R) → HasNoPowerAbove K p → K < j → y_coefficient R j p ≡ nought R
  y_coefficient-above K j p none lt = y_coefficient-down R j p
      ∙ ap (λ t. down R j (homogeneous_part R R.y_degree j t)) (sym none) ∙ ap (down R j) above ∙ down-nothing j
    where
      never : (a : ℕ) → (leb a K && (a == j)) ≡ false
      never a = grind (arith, nat_tests)

      above : homogeneous_part R R.y_degree j (truncated R R.y_degree K p) ≡ nought R
      above = unfold homogeneous_part truncated in
          kept_terms-kept_terms R _ _ p ∙ (λ i. kept_terms R (λ x. never (R.y_degree x) i) p)
          ∙ kept_terms-never R R.y_degree p

  at_zero : (q : Polynomial R) → HasNoPowerAbove 0 q → homogeneous_part R R.y_degree 0 q ≡ q
  at_zero q flat = sym (truncated-zero R R.y_degree q) ∙ flat

  -- of a polynomial without Y
  pub y_coefficient-own : (q : Polynomial R) → HasNoPowerAbove 0 q → y_coefficient R 0 q ≡ q
  unfolding one
  y_coefficient-own q flat = sym (one-product R _) ∙ ap (λ k. product R (monomial R 1 k) (y_coefficient R 0 q))
      (sym R.y-zero)
      ∙ up-y_coefficient R 0 q ∙ at_zero q flat

  -- a factor without Y
  pub y_coefficient-by_flat : (j : ℕ) (p q : Polynomial R) → HasNoPowerAbove 0 q
      → y_coefficient R j (product R p q) ≡ product R (y_coefficient R j p) q
  y_coefficient-by_flat j p q flat = y_coefficient-down R j _ ∙ ap (down R j) (ap (homogeneous_part R R.y_degree j)
      (product-comm R p q ∙ ap (λ t. product R t p) (sym (at_zero q flat)))
      ∙ homogeneous_part-product_of R R.y_degree R.y_degree_adds 0 j q p (omega arith)
      ∙ (λ i. product R (at_zero q flat i) (homogeneous_part R R.y_degree (no_less i) p)) ∙ product-comm R q _
      ∙ ap (λ t. product R t q) (sym (up-y_coefficient R j p)) ∙ product-assoc R _ _ _) ∙ down-up R j _
    where
      no_less : j - 0 ≡ j
      no_less = omega arith

  pub y_coefficient-scaled : (j c : ℕ) (p : Polynomial R) → y_coefficient R j (scaled R c p)
      ≡ scaled R c (y_coefficient R j p)
  y_coefficient-scaled j c p = ap (y_coefficient R j) (sym (number-product R c p))
      ∙ y_coefficient-by_flat j p _ (truncated-monomial R R.y_degree 0 c R.origin (omega (arith, R.y_degree_adds.1)))
      ∙ number-product R c _

  up_pair : (i j : ℕ) → i ≤ j → (a b : Polynomial R)
      → down R j (product R (product R (y_power R i) a) (product R (y_power R (j - i)) b)) ≡ product R a b
  up_pair i j le a b = ap (down R j) (product-four R _ a _ b ∙ ap (λ t. product R t (product R a b))
      (sym (monomial-plus R _ _) ∙ ap (monomial R 1) (sym (R.y-plus i (j - i)) ∙ ap R.y (omega arith)))) ∙ down-up R j _

  pub y_coefficient-product : (j : ℕ) (p q : Polynomial R) → y_coefficient R j (product R p q)
      ≡ sum_to R j (λ i. product R (y_coefficient R i p) (y_coefficient R (j - i) q))
  y_coefficient-product j p q = y_coefficient-down R j _
      ∙ ap (down R j) (homogeneous_part-product R R.y_degree R.y_degree_adds j p q) ∙ down-sum_to R j j _
      ∙ sum_to-same R j _ _ (λ i le. ap (down R j)
      (λ l. product R (sym (up-y_coefficient R i p) l) (sym (up-y_coefficient R (j - i) q) l)) ∙ up_pair i j le _ _)

  -- the coefficients of a quotient by a series
  pub y_coefficient-quotient : (D j : ℕ) (a b q : Polynomial R) → HasNoPowerAbove 0 b → IsQuotient D a b q
      → IsQuotient D (y_coefficient R j a) b (y_coefficient R j q)
  y_coefficient-quotient D j a b q flat is = record {
    within = sym (y_coefficient-truncated R D j q) ∙ ap (y_coefficient R j) is.within;
    multiplies_back = ap (truncated R R.degree D) (sym (y_coefficient-by_flat j q b flat))
        ∙ sym (y_coefficient-truncated R D j _) ∙ ap (y_coefficient R j) is.multiplies_back;
  }
