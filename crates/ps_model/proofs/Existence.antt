-- The pair that is built degree by degree is prepared.
use Rattle.std.proofs.Common.{◌≡◌, ℕ, zero, suc, ◌+◌, ◌-◌, ◌*◌, ◌%◌, ◌≤◌, false, cond, ◌&&◌, sym, ◌∙◌, ap, arith}
use Rattle.std.specs.Prelude.{◌==◌}
use Rattle.std.proofs.Math.Dec.{leb, ltb}
use Rattle.std.proofs.lemmas.Bool.{le-leb}
use Rattle.std.proofs.lemmas.Bool.Decides.{nat_tests}
use Rattle.ps_model.specs.Ring.{Ring}
use Rattle.ps_model.proofs.Units.{unit_from}
use Rattle.ps_model.proofs.Below.{below, truncated-below, below-zero, below-suc, below-sum, below-difference}
use Rattle.ps_model.proofs.Below.{below-below, below-homogeneous_part, homogeneous_part-homogeneous_part}
use Rattle.ps_model.proofs.Below.{homogeneous_part-other, below-product}
use Rattle.ps_model.specs.Truncation.{homogeneous_part}
use Rattle.ps_model.specs.Polynomial.{difference, Polynomial, coefficient, zero as nought, sum, product, kept_terms}
use Rattle.ps_model.specs.Prepared.{IsPreparable, IsPrepared}
use Rattle.ps_model.proofs.RingLaws.{zero-sum, sum-zero, product-comm, sum-difference}
use Rattle.ps_model.proofs.KeptTerms.{kept_terms-sum, kept_terms-kept_terms}
use Rattle.ps_model.proofs.Truncations.{truncated-zero, homogeneous_part-sum, kept_terms-never}
use Rattle.ps_model.proofs.Homogeneous.{IsHomogeneous, kept_terms-monomial, homogeneous-monomial, homogeneous-flat}
use Rattle.ps_model.proofs.Division.{down, y_power, y_degree-lower, below-and-above, kept_terms-down, remainder}
use Rattle.ps_model.proofs.Division.{quotient, divided}
use Rattle.ps_model.proofs.Degrees.{homogeneous_part-grown, homogeneous-difference, homogeneous-below, below_more}
use Rattle.ps_model.proofs.Degrees.{below_of-product}
use Rattle.ps_model.proofs.Origin.{coefficient-kept_terms}
use Rattle.ps_model.proofs.Preparation.{flat_y, degree-y_degree, degree-down, first, first_up, first_flat}
use Rattle.ps_model.proofs.Preparation.{first_origin}
use Rattle.ps_model.proofs.Preparation.{inverter, inverts, missing, next_p, next_u, pair}

record Grown (R : Ring) (G : Polynomial R) (k q r : ℕ) (p u : Polynomial R) : Type 0 where
  monic : kept_terms R (λ x. leb k (R.y_degree x)) p ≡ y_power R k
  p_origin : homogeneous_part R R.degree 0 p ≡ y_power R k
  u_origin : homogeneous_part R R.degree 0 u ≡ first R G k q
  u_no_power_above : below R R.y_degree (suc q) u ≡ u
  p_within : below R R.degree (suc r) p ≡ p
  u_within : below R R.degree (suc r) u ≡ u
  product_is : below R R.degree (suc r) (product R p u) ≡ below R R.degree (suc r) G

module _ (R : Ring) where
  down-y_degree : (k q : ℕ) (p : Polynomial R) → below R R.y_degree (suc (k + q)) p ≡ p → below R R.y_degree (suc q)
      (down R k p) ≡ down R k p
  unfolding below
  down-y_degree k q p hp = kept_terms-down R _ (λ x. ltb (R.y_degree x) (suc (k + q))) k p
      (λ x le. ap (λ n. ltb n (suc q)) (y_degree-lower R k x) ∙ moved (R.y_degree x) le) ∙ ap (down R k) hp
    where
      moved : (a : ℕ) → k ≤ a → ltb (a - k) (suc q) ≡ ltb a (suc (k + q))
      moved a le = grind (arith, nat_tests)

  -- nothing at Y^k or above in what is below Y^k
  pub none_above : (k : ℕ) (p : Polynomial R) → below R R.y_degree k p ≡ p → kept_terms R (λ x. leb k (R.y_degree x)) p
      ≡ nought R
  unfolding below
  none_above k p hp = ap (kept_terms R (λ x. leb k (R.y_degree x))) (sym hp) ∙ kept_terms-kept_terms R _ _ p
      ∙ (λ i. kept_terms R (λ x. never (R.y_degree x) i) p) ∙ kept_terms-never R R.y_degree p
    where
      never : (a : ℕ) → (ltb a k && leb k a) ≡ false
      never a = grind (arith, nat_tests)

  pub y_degree_y : (k : ℕ) → IsHomogeneous R R.y_degree k (y_power R k)
  y_degree_y k = ap (λ n. homogeneous_part R R.y_degree n (y_power R k)) (sym (R.y_degree-y k))
      ∙ homogeneous-monomial R R.y_degree 1 (R.y k)

  pub monic_y_degree : (k : ℕ) (p : Polynomial R) → kept_terms R (λ x. leb k (R.y_degree x)) p ≡ y_power R k
      → below R R.y_degree (suc k) p ≡ p
  monic_y_degree k p monic = ap (below R R.y_degree (suc k)) parts ∙ below-sum R R.y_degree (suc k) _ _
      ∙ (λ i. sum R (below_more R R.y_degree k (suc k) _ (omega arith) (below-below R R.y_degree k k p (omega arith)) i)
      (homogeneous-below R R.y_degree k (suc k) _ (omega arith) (y_degree_y k) i)) ∙ sym parts
    where
      parts : p ≡ sum R (below R R.y_degree k p) (y_power R k)
      parts = below-and-above R k p ∙ ap (sum R (below R R.y_degree k p)) monic

  pub homogeneous_part_y_degree : (r j : ℕ) (p : Polynomial R) → below R R.y_degree j p ≡ p
      → below R R.y_degree j (homogeneous_part R R.degree r p) ≡ homogeneous_part R R.degree r p
  homogeneous_part_y_degree r j p hp = sym (degree-y_degree R r j p) ∙ ap (homogeneous_part R R.degree r) hp

module _ (R : Ring) (G : Polynomial R) (k q : ℕ) (ok : IsPreparable G k q) where
  G_y_degree : below R R.y_degree (suc (k + q)) G ≡ G
  G_y_degree = sym (truncated-below R R.y_degree (k + q) G) ∙ ok.no_power_above

  begun : Grown R G k q 0 (y_power R k) (first R G k q)
  begun = record {
    monic = kept_terms-monomial R _ 1 (R.y k) (ap (leb k) (R.y_degree-y k) ∙ le-leb k k (omega arith));
    p_origin = flat_y R k;
    u_origin = first_flat R G k q ok;
    u_no_power_above = unfold first in down-y_degree R k q _ (homogeneous_part_y_degree R 0 _ G G_y_degree);
    p_within = homogeneous-below R R.degree 0 1 _ (omega arith) (flat_y R k);
    u_within = homogeneous-below R R.degree 0 1 _ (omega arith) (first_flat R G k q ok);
    product_is = ap (below R R.degree 1) (first_up R G k q ok) ∙ homogeneous-below R R.degree 0 1 _ (omega arith)
        (homogeneous_part-homogeneous_part R R.degree 0 G)
        ∙ sym (below-suc R R.degree 0 G ∙ (λ i. sum R (below-zero R R.degree G i) (homogeneous_part R R.degree 0 G))
        ∙ zero-sum R _);
  }

  module _ (r : ℕ) (p u : Polynomial R) (at : Grown R G k q r p u) where
    abbrev g : Polynomial R
    g = missing R G k q ok (suc r) p u

    abbrev a : Polynomial R
    a = next_p R G k q ok (suc r) p u

    abbrev w : Polynomial R
    w = next_u R G k q ok (suc r) p u

    g_part : IsHomogeneous R R.degree (suc r) g
    unfolding missing
    g_part = homogeneous-difference R R.degree (suc r) _ _ (homogeneous_part-homogeneous_part R R.degree (suc r) _)
        (homogeneous_part-homogeneous_part R R.degree (suc r) _)

    g_y_degree : below R R.y_degree (suc (k + q)) g ≡ g
    unfolding missing
    g_y_degree = below-difference R R.y_degree _ _ _
        ∙ λ i. difference R (homogeneous_part_y_degree R (suc r) _ G G_y_degree i)
        (homogeneous_part_y_degree R (suc r) _ (product R p u) (below_of-product R R.y_degree R.y_degree_adds k q p u
        (monic_y_degree R k p at.monic) at.u_no_power_above) i)

    a_part : IsHomogeneous R R.degree (suc r) a
    unfolding next_p remainder
    a_part = degree-y_degree R (suc r) k _
        ∙ ap (below R R.y_degree k) (ap (homogeneous_part R R.degree (suc r)) (product-comm R _ _)
        ∙ homogeneous-flat R R.degree R.degree_adds (suc r) (inverter R G k q ok) g
        (unfold inverter in homogeneous_part-homogeneous_part R R.degree 0 _) g_part ∙ product-comm R _ _)

    a_y_degree : below R R.y_degree k a ≡ a
    unfolding next_p remainder
    a_y_degree = below-below R R.y_degree k k _ (omega arith)

    ab_part : IsHomogeneous R R.degree (suc r) (product R a (first R G k q))
    ab_part = ap (homogeneous_part R R.degree (suc r)) (product-comm R _ _) ∙ homogeneous-flat R R.degree R.degree_adds
        (suc r) (first R G k q) a (first_flat R G k q ok) a_part ∙ product-comm R _ _

    ab_y_degree : below R R.y_degree (suc (k + q)) (product R a (first R G k q)) ≡ product R a (first R G k q)
    ab_y_degree = below_of-product R R.y_degree R.y_degree_adds k q a (first R G k q)
        (below_more R R.y_degree k (suc k) a (omega arith) a_y_degree) (begun.u_no_power_above)

    w_part : IsHomogeneous R R.degree (suc r) w
    unfolding next_u quotient next_p
    w_part = degree-down R (suc r) k _
        ∙ ap (down R k) (homogeneous-difference R R.degree (suc r) g (product R a (first R G k q)) g_part ab_part)

    w_y_degree : below R R.y_degree (suc q) w ≡ w
    unfolding next_u quotient next_p
    w_y_degree = down-y_degree R k q _ (below-difference R R.y_degree _ _ _ ∙ λ i. difference R (g_y_degree i)
        (ab_y_degree i))

    added : sum R (product R (y_power R k) w) (product R a (first R G k q)) ≡ g
    unfolding next_p next_u
    added = divided R k (first R G k q) (inverter R G k q ok) (inverts R G k q ok) g

    -- a homogeneous part of degree suc r changes nothing below it
    before : (t s : Polynomial R) → IsHomogeneous R R.degree (suc r) s → below R R.degree (suc r) t ≡ t
        → below R R.degree (suc r) (sum R t s) ≡ t
    before t s hs ht = below-sum R R.degree (suc r) t s
        ∙ (λ i. sum R (ht i)
        ((ap (below R R.degree (suc r)) (sym hs) ∙ below-homogeneous_part R R.degree (suc r) (suc r) s (omega arith))
        i)) ∙ sum-zero R t

    within : (t s : Polynomial R) → IsHomogeneous R R.degree (suc r) s → below R R.degree (suc r) t ≡ t
        → below R R.degree (suc (suc r)) (sum R t s) ≡ sum R t s
    within t s hs ht = below-sum R R.degree (suc (suc r)) t s
        ∙ λ i. sum R (below_more R R.degree (suc r) (suc (suc r)) t (omega arith) ht i)
        (homogeneous-below R R.degree (suc r) (suc (suc r)) s (omega arith) hs i)

    at_origin : (t s : Polynomial R) → IsHomogeneous R R.degree (suc r) s → homogeneous_part R R.degree 0 (sum R t s)
        ≡ homogeneous_part R R.degree 0 t
    at_origin t s hs = homogeneous_part-sum R R.degree 0 t s ∙ ap (sum R (homogeneous_part R R.degree 0 t))
        (ap (homogeneous_part R R.degree 0) (sym hs) ∙ homogeneous_part-other R R.degree 0 (suc r) s (omega arith))
        ∙ sum-zero R _

    new_part : homogeneous_part R R.degree (suc r) (product R (sum R p a) (sum R u w)) ≡ homogeneous_part R R.degree
        (suc r) G
    new_part = homogeneous_part-grown R R.degree R.degree_adds (suc r) p u a w (omega arith) a_part w_part
        ∙ ap (sum R (homogeneous_part R R.degree (suc r) (product R p u)))
        ((λ i. sum R (product R (at.p_origin i) w) (product R a (at.u_origin i))) ∙ added) ∙ whole
      where
        whole : sum R (homogeneous_part R R.degree (suc r) (product R p u)) g ≡ homogeneous_part R R.degree (suc r) G
        whole = unfold missing in sum-difference R _ _

    old_part : below R R.degree (suc r) (product R (sum R p a) (sum R u w)) ≡ below R R.degree (suc r) G
    old_part = below-product R R.degree R.degree_adds (suc r) _ _
        ∙ (λ i. below R R.degree (suc r)
        (product R (before p a a_part at.p_within i) (before u w w_part at.u_within i))) ∙ at.product_is

    grown : Grown R G k q (suc r) (sum R p a) (sum R u w)
    grown = record {
      monic = kept_terms-sum R _ p a ∙ (λ i. sum R (at.monic i) (none_above R k a a_y_degree i)) ∙ sum-zero R _;
      p_origin = at_origin p a a_part ∙ at.p_origin;
      u_origin = at_origin u w w_part ∙ at.u_origin;
      u_no_power_above = below-sum R R.y_degree (suc q) u w ∙ λ i. sum R (at.u_no_power_above i) (w_y_degree i);
      p_within = within p a a_part at.p_within;
      u_within = within u w w_part at.u_within;
      product_is = below-suc R R.degree (suc r) _ ∙ (λ i. sum R (old_part i) (new_part i))
          ∙ sym (below-suc R R.degree (suc r) G);
    }

  pair_grown : (D : ℕ) → Grown R G k q D (pair R G k q ok D).0 (pair R G k q ok D).1
  unfolding pair
  pair_grown zero = begun
  pair_grown (suc D) = grown D _ _ (pair_grown D)

  unit_of : (u : Polynomial R) → homogeneous_part R R.degree 0 u ≡ first R G k q → coefficient R u R.origin
      ≡ coefficient R G (R.y k)
  unfolding homogeneous_part
  unit_of u is = sym (coefficient-kept_terms R _ u R.origin ∙ ap (λ n. cond (n == 0) (coefficient R u R.origin) 0)
      R.degree_adds.1) ∙ ap (λ p. coefficient R p R.origin) is ∙ first_origin R G k q ok

  pub prepared : (D : ℕ) → IsPrepared G k q D (pair R G k q ok D).0 (pair R G k q ok D).1
  prepared D =
      let at = pair_grown D in
      record {
        monic = at.monic;
        at_origin = truncated-zero R R.degree _ ∙ at.p_origin;
        u_no_power_above = truncated-below R R.y_degree q _ ∙ at.u_no_power_above;
        u_unit = unit_from R _ ok.unit.inverse
            (ap (λ c. (c * ok.unit.inverse) % R.modulus) (unit_of _ at.u_origin) ∙ ok.unit.inverts);
        p_within = truncated-below R R.degree D _ ∙ at.p_within;
        u_within = truncated-below R R.degree D _ ∙ at.u_within;
        product_is = truncated-below R R.degree D _ ∙ at.product_is ∙ sym (truncated-below R R.degree D G);
      }
