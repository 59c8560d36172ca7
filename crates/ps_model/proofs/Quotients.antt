-- Division by a polynomial without Y whose constant term is a unit: exactly one quotient up to each degree.
use Rattle.std.proofs.Common.{◌≡◌, ℕ, suc, ◌≤◌, sym, ◌∙◌, ap}
use Rattle.ps_model.specs.Ring.{Ring}
use Rattle.ps_model.specs.Truncation.{truncated, homogeneous_part}
use Rattle.ps_model.proofs.Below.{below, truncated-below}
use Rattle.ps_model.specs.Bounds.{HasNoDegreeAbove, IsUnit, ExactlyOne}
use Rattle.ps_model.specs.Prepared.{IsQuotient}
use Rattle.ps_model.specs.Polynomial.{Polynomial, coefficient, one, monomial, product}
use Rattle.ps_model.proofs.RingLaws.{product-comm, product-assoc, product-one}
use Rattle.ps_model.proofs.Truncations.{truncated-zero}
use Rattle.ps_model.proofs.Degrees.{kept_terms-commute}
use Rattle.ps_model.proofs.Homogeneous.{homogeneous-monomial}
use Rattle.ps_model.proofs.Inverse.{inverse}
use Rattle.ps_model.proofs.Origin.{constants, constant_one, constant_is}
use Rattle.ps_model.proofs.Factors.{truncated-again, truncated-lower, truncated-product_right}

module _ (R : Ring) (b : Polynomial R) (flat : truncated R R.y_degree 0 b ≡ b)
    (unit : IsUnit R.modulus (coefficient R b R.origin)) (D : ℕ) where
  pub b_origin : homogeneous_part R R.degree 0 b ≡ monomial R (coefficient R b R.origin) R.origin
  b_origin = ap (homogeneous_part R R.degree 0) (sym flat ∙ truncated-zero R R.y_degree b) ∙ commuted ∙ constant_is R b
    where
      commuted : homogeneous_part R R.degree 0 (homogeneous_part R R.y_degree 0 b) ≡ homogeneous_part R R.y_degree 0
          (homogeneous_part R R.degree 0 b)
      commuted = unfold homogeneous_part in kept_terms-commute R _ _ b

  inverted : (v : Polynomial R) × (below R R.degree (suc D) (product R b v) ≡ below R R.degree (suc D) (one R))
  inverted = inverse R R.degree R.degree_adds b (monomial R unit.inverse R.origin)
      (ap (λ n. homogeneous_part R R.degree n (monomial R unit.inverse R.origin)) (sym R.degree_adds.1)
      ∙ homogeneous-monomial R R.degree unit.inverse R.origin)
      (ap (λ p. product R p (monomial R unit.inverse R.origin)) b_origin ∙ constants R _ _
      ∙ constant_one R _ unit.inverts) (suc D)

  -- b * v is 1 up to degree D
  undone : (a : Polynomial R) → truncated R R.degree D (product R a (product R b inverted.0)) ≡ truncated R R.degree D a
  undone a = truncated-product_right R R.degree R.degree_adds D a _ ∙ ap (λ t. truncated R R.degree D (product R a t))
      (truncated-below R R.degree D _ ∙ inverted.1 ∙ sym (truncated-below R R.degree D (one R)))
      ∙ sym (truncated-product_right R R.degree R.degree_adds D a (one R)) ∙ ap (truncated R R.degree D)
      (product-one R a)

  pub one_quotient : (a : Polynomial R) → HasNoDegreeAbove D a → ExactlyOne (IsQuotient D a b)
  one_quotient a within = record {
    one_value = truncated R R.degree D (product R a inverted.0);
    meets = record { within = truncated-again R R.degree D _; multiplies_back = is_quotient };
    only = λ s is. alone s is.within is.multiplies_back;
  }
    where
      left : (s t : Polynomial R) → truncated R R.degree D (product R (truncated R R.degree D s) t)
          ≡ truncated R R.degree D (product R s t)
      left s t = ap (truncated R R.degree D) (product-comm R _ t)
          ∙ sym (truncated-product_right R R.degree R.degree_adds D t s) ∙ ap (truncated R R.degree D)
          (product-comm R t s)

      is_quotient : truncated R R.degree D (product R (truncated R R.degree D (product R a inverted.0)) b) ≡ a
      is_quotient = left _ b ∙ ap (truncated R R.degree D) (product-assoc R a _ b
          ∙ ap (product R a) (product-comm R _ b)) ∙ undone a ∙ within

      alone : (s : Polynomial R) → truncated R R.degree D s ≡ s → truncated R R.degree D (product R s b) ≡ a
          → s ≡ truncated R R.degree D (product R a inverted.0)
      alone s hs is = sym hs ∙ sym (undone s) ∙ ap (truncated R R.degree D) (sym (product-assoc R s b _))
          ∙ sym (left (product R s b) inverted.0) ∙ ap (λ t. truncated R R.degree D (product R t inverted.0)) is

module _ (R : Ring) where
  pub quotient-truncated : (d D : ℕ) (a b q : Polynomial R) → d ≤ D → IsQuotient D a b q
      → IsQuotient d (truncated R R.degree d a) b (truncated R R.degree d q)
  quotient-truncated d D a b q le is = record {
    within = truncated-again R R.degree d q;
    multiplies_back = ap (truncated R R.degree d) (product-comm R _ b)
        ∙ sym (truncated-product_right R R.degree R.degree_adds d b q) ∙ ap (truncated R R.degree d)
        (product-comm R b q)
        ∙ sym (truncated-lower R R.degree d D _ le) ∙ ap (truncated R R.degree d) is.multiplies_back;
  }
