-- Bounds of a degree of keys, as the power of Y: of sums, multiples, products, powers, truncations and quotients.
use Rattle.std.proofs.Common.{◌≡◌, ℕ, zero, suc, ◌+◌, ◌*◌, ◌≤◌, true, sym, ◌∙◌, ap, arith, ◌&&◌}
use Rattle.std.proofs.Math.Dec.{leb}
use Rattle.std.proofs.lemmas.Bool.{le-leb}
use Rattle.std.proofs.lemmas.Bool.Decides.{nat_tests}
use Rattle.ps_model.specs.Ring.{Ring, IsDegree}
use Rattle.ps_model.specs.Truncation.{truncated}
use Rattle.ps_model.specs.Bounds.{HasNoPowerAbove, IsUnit}
use Rattle.ps_model.specs.Prepared.{IsQuotient}
use Rattle.ps_model.specs.Polynomial.{Polynomial, coefficient, zero as nought, one, monomial, sum, negative, product}
use Rattle.ps_model.specs.Polynomial.{power, kept_terms}
use Rattle.ps_model.proofs.KeptTerms.{kept_terms-scaled, kept_terms-zero, same_parts}
use Rattle.ps_model.proofs.Truncations.{truncated-sum, kept_terms-always}
use Rattle.ps_model.proofs.Homogeneous.{kept_terms-monomial}
use Rattle.ps_model.proofs.Below.{truncated-below}
use Rattle.ps_model.proofs.Degrees.{kept_terms-commute, below_more, below_of-product}
use Rattle.ps_model.proofs.Quotients.{one_quotient}
use Rattle.ps_model.proofs.Factors.{truncated-again}

module _ (R : Ring) (d : R.Key → ℕ) where
  pub truncated-negative : (D : ℕ) (p : Polynomial R) → truncated R d D (negative R p) ≡ negative R (truncated R d D p)
  unfolding truncated negative
  truncated-negative D p = kept_terms-scaled R _ _ p

  pub truncated-nothing : (D : ℕ) → truncated R d D (nought R) ≡ nought R
  unfolding truncated
  truncated-nothing D = kept_terms-zero R _

  pub truncated-monomial : (D c : ℕ) (k : R.Key) → d k ≤ D → truncated R d D (monomial R c k) ≡ monomial R c k
  unfolding truncated
  truncated-monomial D c k h = kept_terms-monomial R (λ x. leb (d x) D) c k (le-leb (d k) D h)

  -- truncations by two degrees commute
  pub truncations-swap : (e : R.Key → ℕ) (D K : ℕ) (p : Polynomial R) → truncated R d K (truncated R e D p)
      ≡ truncated R e D (truncated R d K p)
  unfolding truncated
  truncations-swap e D K p = kept_terms-commute R _ _ p

  abbrev HasBound : ℕ → Polynomial R → Type 0
  HasBound K p = truncated R d K p ≡ p

  pub bound-more : (j k : ℕ) (p : Polynomial R) → j ≤ k → HasBound j p → HasBound k p
  bound-more j k p h hp = truncated-below R d k p ∙ below_more R d (suc j) (suc k) p (omega arith)
      (sym (truncated-below R d j p) ∙ hp)

  pub bound-truncated : (D K : ℕ) (p : Polynomial R) → HasBound K p → HasBound K (truncated R R.degree D p)
  bound-truncated D K p hp = truncations-swap R.degree D K p ∙ ap (truncated R R.degree D) hp

  pub bound-sum : (K : ℕ) (p q : Polynomial R) → HasBound K p → HasBound K q → HasBound K (sum R p q)
  bound-sum K p q hp hq = truncated-sum R d K p q ∙ λ i. sum R (hp i) (hq i)

  pub bound-negative : (K : ℕ) (p : Polynomial R) → HasBound K p → HasBound K (negative R p)
  bound-negative K p hp = truncated-negative K p ∙ ap (negative R) hp

  module _ (h : IsDegree R d) where
    pub bound-product : (j k : ℕ) (p q : Polynomial R) → HasBound j p → HasBound k q → HasBound (j + k) (product R p q)
    bound-product j k p q hp hq = truncated-below R d (j + k) _
        ∙ below_of-product R d h j k p q (sym (truncated-below R d j p) ∙ hp) (sym (truncated-below R d k q) ∙ hq)

    pub bound-one : HasBound 0 (one R)
    unfolding one
    bound-one = truncated-monomial 0 1 R.origin (let e = h.1 in omega arith)

    pub bound-power : (k e : ℕ) (p : Polynomial R) → HasBound k p → HasBound (e * k) (power R p e)
    bound-power k zero p hp = bound-more 0 (0 * k) (one R) (omega arith) bound-one
    bound-power k (suc e) p hp = bound-more (k + e * k) (suc e * k) (product R p (power R p e)) (omega arith)
        (bound-product k (e * k) p (power R p e) hp (bound-power k e p hp))

    -- a factor of degree 0 leaves the degrees
    pub truncated-flat_product : (K : ℕ) (p q : Polynomial R) → HasBound 0 q
        → truncated R d K (product R p q) ≡ product R (truncated R d K p) q
    unfolding truncated
    truncated-flat_product K p q hq = ap (λ t. kept_terms R (λ x. leb (d x) K) (product R p t)) (sym hq)
        ∙ ap (λ t. kept_terms R (λ x. leb (d x) K) (product R t (kept_terms R (λ x. leb (d x) 0) q)))
        (sym (kept_terms-always R d p))
        ∙ same_parts R (λ x. leb (d x) K) (λ x. true) (λ x. leb (d x) 0) (λ x. true) (λ x. leb (d x) K)
        (λ x. leb (d x) 0) p q (λ x y. rw h.0 (same (d x) (d y)))
        ∙ kept_terms-always R d _ ∙ ap (product R (kept_terms R (λ x. leb (d x) K) p)) hq
      where
        same : (a b : ℕ) → (true && (leb b 0 && leb (a + b) K)) ≡ (leb a K && (leb b 0 && true))
        same a b = grind (arith, nat_tests)

    -- a quotient by a unit of degree 0 has no greater degree than the dividend
    pub bound-quotient : (D K : ℕ) (a b q : Polynomial R) → truncated R R.y_degree 0 b ≡ b → HasBound 0 b
        → IsUnit R.modulus (coefficient R b R.origin) → HasBound K a → IsQuotient D a b q → HasBound K q
    bound-quotient D K a b q without_y flat unit ha is = only (truncated R d K q) cut ∙ sym (only q is)
      where
        only : (s : Polynomial R) → IsQuotient D a b s → s
            ≡ (one_quotient R b without_y unit D a (sym (ap (truncated R R.degree D) (is.multiplies_back))
            ∙ truncated-again R R.degree D _ ∙ is.multiplies_back)).one_value
        only s = (one_quotient R b without_y unit D a (sym (ap (truncated R R.degree D) (is.multiplies_back))
            ∙ truncated-again R R.degree D _ ∙ is.multiplies_back)).only s

        cut : IsQuotient D a b (truncated R d K q)
        cut = record {
          within = sym (truncations-swap R.degree D K q) ∙ ap (truncated R d K) is.within;
          multiplies_back = ap (truncated R R.degree D) (sym (truncated-flat_product K q b flat))
              ∙ sym (truncations-swap R.degree D K _) ∙ ap (truncated R d K) is.multiplies_back ∙ ha;
        }

-- the same of the power of Y
module _ (R : Ring) where
  pub power_bound-more : (j k : ℕ) (p : Polynomial R) → j ≤ k → HasNoPowerAbove j p → HasNoPowerAbove k p
  power_bound-more = bound-more R R.y_degree

  pub power_bound-truncated : (D K : ℕ) (p : Polynomial R) → HasNoPowerAbove K p
      → HasNoPowerAbove K (truncated R R.degree D p)
  power_bound-truncated = bound-truncated R R.y_degree

  pub power_bound-sum : (K : ℕ) (p q : Polynomial R) → HasNoPowerAbove K p → HasNoPowerAbove K q
      → HasNoPowerAbove K (sum R p q)
  power_bound-sum = bound-sum R R.y_degree

  pub power_bound-negative : (K : ℕ) (p : Polynomial R) → HasNoPowerAbove K p → HasNoPowerAbove K (negative R p)
  power_bound-negative = bound-negative R R.y_degree

  pub power_bound-product : (j k : ℕ) (p q : Polynomial R) → HasNoPowerAbove j p → HasNoPowerAbove k q
      → HasNoPowerAbove (j + k) (product R p q)
  power_bound-product = bound-product R R.y_degree R.y_degree_adds

  pub power_bound-power : (k e : ℕ) (p : Polynomial R) → HasNoPowerAbove k p → HasNoPowerAbove (e * k) (power R p e)
  power_bound-power = bound-power R R.y_degree R.y_degree_adds

  pub power_bound-quotient : (D K : ℕ) (a b q : Polynomial R) → HasNoPowerAbove 0 b
      → IsUnit R.modulus (coefficient R b R.origin) → HasNoPowerAbove K a → IsQuotient D a b q → HasNoPowerAbove K q
  power_bound-quotient D K a b q flat unit ha is =
      bound-quotient R R.y_degree R.y_degree_adds D K a b q flat flat unit ha is
