-- Exactly one prepared pair.
use Rattle.std.proofs.Common.{◌≡◌, ℕ, zero, suc, ◌<◌, ◌≤◌, cond, sym, ◌∙◌, ap, arith}
use Rattle.std.specs.Prelude.{◌==◌}
use Rattle.ps_model.specs.Ring.{Ring}
use Rattle.ps_model.proofs.Below.{below, truncated-below, below-zero, below-suc, homogeneous_part-below}
use Rattle.ps_model.proofs.Below.{homogeneous_part-homogeneous_part, homogeneous_part-other}
use Rattle.ps_model.specs.Truncation.{homogeneous_part}
use Rattle.ps_model.specs.Polynomial.{difference, Polynomial, coefficient, one, monomial, sum, product}
use Rattle.ps_model.specs.Prepared.{IsPreparable, IsPrepared}
use Rattle.ps_model.proofs.RingLaws.{zero-sum, sum-zero, difference-sum}
use Rattle.ps_model.proofs.Truncations.{truncated-zero, homogeneous_part-truncated, homogeneous_part-sum}
use Rattle.ps_model.proofs.Truncations.{homogeneous_part-product}
use Rattle.ps_model.proofs.Homogeneous.{IsHomogeneous, homogeneous-monomial, homogeneous-one}
use Rattle.ps_model.proofs.Inverse.{inverse}
use Rattle.ps_model.proofs.Division.{down, y_power, degree-lower, down-up, multiple, below-and-above, kept_terms-down}
use Rattle.ps_model.proofs.Division.{remainder, quotient, remainder_is, quotient_is}
use Rattle.ps_model.proofs.Degrees.{kept_terms-commute, homogeneous_part-product_below, homogeneous_part-grown}
use Rattle.ps_model.proofs.Origin.{coefficient-kept_terms, constants, constant_one, nothing_below, constant_is}
use Rattle.ps_model.proofs.Origin.{coefficient-down}

module _ (R : Ring) where
  pub flat_y : (k : ℕ) → IsHomogeneous R R.degree 0 (y_power R k)
  flat_y k = ap (λ n. homogeneous_part R R.degree n (y_power R k)) (sym (R.degree-y k))
      ∙ homogeneous-monomial R R.degree 1 (R.y k)

  -- parts by degree and by power of Y commute
  pub degree-y_degree : (r k : ℕ) (p : Polynomial R) → homogeneous_part R R.degree r (below R R.y_degree k p)
      ≡ below R R.y_degree k (homogeneous_part R R.degree r p)
  unfolding homogeneous_part below
  degree-y_degree r k p = kept_terms-commute R _ _ p

  pub degree-down : (r k : ℕ) (p : Polynomial R) → homogeneous_part R R.degree r (down R k p)
      ≡ down R k (homogeneous_part R R.degree r p)
  unfolding homogeneous_part
  degree-down r k p = kept_terms-down R _ _ k p (λ x le. ap (λ n. n == r) (degree-lower R k x))

module _ (R : Ring) (G : Polynomial R) (k q : ℕ) where
  -- the unit's part of degree 0
  unfoldable pub first : Polynomial R
  first = down R k (homogeneous_part R R.degree 0 G)

module _ (R : Ring) (G : Polynomial R) (k q : ℕ) (ok : IsPreparable G k q) where
  pub first_up : product R (y_power R k) (first R G k q) ≡ homogeneous_part R R.degree 0 G
  unfolding first
  first_up = multiple R k _ (nothing_below R k G ok.lower)

  pub first_flat : IsHomogeneous R R.degree 0 (first R G k q)
  unfolding first
  first_flat = degree-down R 0 k _ ∙ ap (down R k) (homogeneous_part-homogeneous_part R R.degree 0 G)

  pub first_origin : coefficient R (first R G k q) R.origin ≡ coefficient R G (R.y k)
  unfolding first homogeneous_part
  first_origin = coefficient-down R k _ ∙ coefficient-kept_terms R _ G (R.y k)
      ∙ ap (λ n. cond (n == 0) (coefficient R G (R.y k)) 0) (R.degree-y k)

  first_constant : homogeneous_part R R.y_degree 0 (first R G k q) ≡ monomial R (coefficient R G (R.y k)) R.origin
  first_constant = ap (homogeneous_part R R.y_degree 0) (sym first_flat) ∙ constant_is R (first R G k q)
      ∙ ap (λ c. monomial R c R.origin) first_origin

  pub inverted : (w : Polynomial R) × (below R R.y_degree k (product R (first R G k q) w) ≡ below R R.y_degree k
      (one R))
  inverted = inverse R R.y_degree R.y_degree_adds (first R G k q) (monomial R ok.unit.inverse R.origin)
      (ap (λ n. homogeneous_part R R.y_degree n (monomial R ok.unit.inverse R.origin)) (sym R.y_degree_adds.1)
      ∙ homogeneous-monomial R R.y_degree ok.unit.inverse R.origin)
      (ap (λ p. product R p (monomial R ok.unit.inverse R.origin)) first_constant ∙ constants R _ _
      ∙ constant_one R _ ok.unit.inverts) k

  unfoldable pub inverter : Polynomial R
  inverter = homogeneous_part R R.degree 0 inverted.0

  pub inverts : below R R.y_degree k (product R (first R G k q) inverter) ≡ below R R.y_degree k (one R)
  unfolding inverter
  inverts = ap (below R R.y_degree k) (sym (top_of ∙ ap (λ p. product R p inverter) first_flat))
      ∙ sym (degree-y_degree R 0 k _) ∙ ap (homogeneous_part R R.degree 0) inverted.1 ∙ degree-y_degree R 0 k (one R)
      ∙ ap (below R R.y_degree k) (homogeneous-one R R.degree R.degree_adds)
    where
      top_of : homogeneous_part R R.degree 0 (product R (first R G k q) inverted.0)
          ≡ product R (homogeneous_part R R.degree 0 (first R G k q)) (homogeneous_part R R.degree 0 inverted.0)
      top_of = homogeneous_part-product R R.degree R.degree_adds 0 _ _

  -- what is missing of degree r
  unfoldable pub missing : ℕ → Polynomial R → Polynomial R → Polynomial R
  missing r p u = difference R (homogeneous_part R R.degree r G) (homogeneous_part R R.degree r (product R p u))

  unfoldable pub next_p : ℕ → Polynomial R → Polynomial R → Polynomial R
  next_p r p u = remainder R k (first R G k q) inverter inverts (missing r p u)

  unfoldable pub next_u : ℕ → Polynomial R → Polynomial R → Polynomial R
  next_u r p u = quotient R k (first R G k q) inverter inverts (missing r p u)

  unfoldable pub pair : ℕ → Polynomial R × Polynomial R
  pair zero = (y_power R k, first R G k q)
  pair (suc r) = (
    sum R (pair r).0 (next_p (suc r) (pair r).0 (pair r).1),
    sum R (pair r).1
        (next_u (suc r) (pair r).0 (pair r).1),
  )

  module _ (D : ℕ) (p u : Polynomial R) (is : IsPrepared G k q D p u) where
    origin_p : homogeneous_part R R.degree 0 p ≡ y_power R k
    origin_p = sym (truncated-zero R R.degree p) ∙ is.at_origin

    product_at : (r : ℕ) → r ≤ D → homogeneous_part R R.degree r (product R p u) ≡ homogeneous_part R R.degree r G
    product_at r le = sym (homogeneous_part-truncated R R.degree r D _ le)
        ∙ ap (homogeneous_part R R.degree r) is.product_is ∙ homogeneous_part-truncated R R.degree r D _ le

    pub origin_u : homogeneous_part R R.degree 0 u ≡ first R G k q
    unfolding first
    origin_u = sym (down-up R k _)
        ∙ ap (down R k) (ap (λ p. product R p (homogeneous_part R R.degree 0 u)) (sym origin_p)
        ∙ sym (homogeneous_part-product R R.degree R.degree_adds 0 p u) ∙ product_at 0 (omega arith))

    low_p : (r : ℕ) → 0 < r → below R R.y_degree k (homogeneous_part R R.degree r p) ≡ homogeneous_part R R.degree r p
    low_p r pos = sym (degree-y_degree R r k p)
        ∙ sym (ap (homogeneous_part R R.degree r) (below-and-above R k p ∙ ap (sum R (below R R.y_degree k p)) is.monic)
        ∙ homogeneous_part-sum R R.degree r _ _
        ∙ ap (sum R (homogeneous_part R R.degree r (below R R.y_degree k p)))
        (ap (homogeneous_part R R.degree r) (sym (flat_y R k)) ∙ homogeneous_part-other R R.degree r 0 _
        (omega arith)) ∙ sum-zero R _)

    found : (r : ℕ) → suc r ≤ D → sum R (product R (y_power R k) (homogeneous_part R R.degree (suc r) u))
        (product R (homogeneous_part R R.degree (suc r) p) (first R G k q))
        ≡ missing (suc r) (below R R.degree (suc r) p) (below R R.degree (suc r) u)
    unfolding missing
    found r le = (λ i. sum R (product R (sym low i) (homogeneous_part R R.degree (suc r) u))
        (product R (homogeneous_part R R.degree (suc r) p) (sym high i)))
        ∙ sym (difference-sum R _ _)
        ∙ ap (λ g. difference R g
        (homogeneous_part R R.degree (suc r) (product R (below R R.degree (suc r) p) (below R R.degree (suc r) u))))
        (sym whole)
      where
        low : homogeneous_part R R.degree 0 (below R R.degree (suc r) p) ≡ y_power R k
        low = homogeneous_part-below R R.degree 0 (suc r) p (omega arith) ∙ origin_p

        high : homogeneous_part R R.degree 0 (below R R.degree (suc r) u) ≡ first R G k q
        high = homogeneous_part-below R R.degree 0 (suc r) u (omega arith) ∙ origin_u

        whole : homogeneous_part R R.degree (suc r) G
            ≡ sum R (homogeneous_part R R.degree (suc r)
            (product R (below R R.degree (suc r) p) (below R R.degree (suc r) u)))
            (sum R (product R (homogeneous_part R R.degree 0 (below R R.degree (suc r) p))
            (homogeneous_part R R.degree (suc r) u)) (product R (homogeneous_part R R.degree (suc r) p)
            (homogeneous_part R R.degree 0 (below R R.degree (suc r) u))))
        whole = sym (product_at (suc r) le) ∙ homogeneous_part-product_below R R.degree R.degree_adds (suc r) p u
            ∙ (λ i. homogeneous_part R R.degree (suc r)
            (product R (below-suc R R.degree (suc r) p i) (below-suc R R.degree (suc r) u i)))
            ∙ homogeneous_part-grown R R.degree R.degree_adds (suc r) _ _ _ _ (omega arith)
            (homogeneous_part-homogeneous_part R R.degree (suc r) p)
            (homogeneous_part-homogeneous_part R R.degree (suc r) u)

    pub same_pair : (r : ℕ) → r ≤ D → (below R R.degree (suc r) p ≡ (pair r).0) ×
        (below R R.degree (suc r) u ≡ (pair r).1)
    unfolding pair next_p next_u
    same_pair zero le = (
      below-suc R R.degree 0 p ∙ (λ i. sum R (below-zero R R.degree p i) (origin_p i))
          ∙ zero-sum R _,
      below-suc R R.degree 0 u ∙ (λ i. sum R (below-zero R R.degree u i) (origin_u i)) ∙ zero-sum R _,
    )
    same_pair (suc r) le =
        let before = same_pair r (omega arith) in
        let a = remainder_is R k (first R G k q) inverter inverts
        (missing (suc r) (below R R.degree (suc r) p) (below R R.degree (suc r) u)) _ _
        (low_p (suc r) (omega arith)) (found r le) in
        let w = quotient_is R k (first R G k q) inverter inverts
        (missing (suc r) (below R R.degree (suc r) p) (below R R.degree (suc r) u)) _ _
        (low_p (suc r) (omega arith)) (found r le) in (
          below-suc R R.degree (suc r) p
              ∙ (λ i. sum R (before.0 i) ((a ∙ λ j. next_p (suc r) (before.0 j) (before.1 j)) i)),
          below-suc R R.degree (suc r) u
              ∙ (λ i. sum R (before.1 i) ((w ∙ λ j. next_u (suc r) (before.0 j) (before.1 j)) i)),
        )

    pub is_pair : (p ≡ (pair D).0) × (u ≡ (pair D).1)
    is_pair = (
      sym is.p_within ∙ truncated-below R R.degree D p ∙ (same_pair D (omega arith)).0,
      sym is.u_within
          ∙ truncated-below R R.degree D u ∙ (same_pair D (omega arith)).1,
    )
