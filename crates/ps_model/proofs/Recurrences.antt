-- A pair whose slices of degree r follow from the prepared pair below r is the prepared pair up to r; and the pair of
-- degree 0.
use Rattle.std.proofs.Common.{◌≡◌, ℕ, suc, ◌+◌, ◌-◌, ◌*◌, ◌%◌, ◌<◌, ◌≤◌, sym, ◌∙◌, ap, subst, arith, inl, inr}
use Rattle.std.proofs.lemmas.Bool.{cases_lt}
use Rattle.std.proofs.lemmas.Nat.{mul-mod_first}
use Rattle.std.proofs.Math.Nat.{one-mul}
use Rattle.ps_model.specs.Ring.{Ring}
use Rattle.ps_model.specs.Polynomial.{Polynomial, zero as nought, monomial, sum, scaled, difference, product}
use Rattle.ps_model.specs.Polynomial.{coefficient, sum_between}
use Rattle.ps_model.specs.Truncation.{truncated, homogeneous_part}
use Rattle.ps_model.specs.Bounds.{HasNoPowerAbove, HasNoDegreeAbove, IsMonic, IsUnit}
use Rattle.ps_model.specs.Prepared.{IsPrepared}
use Rattle.ps_model.specs.Recurrences.{crossed_product, FollowsRecurrences}
use Rattle.ps_model.specs.Slices.{slice_at}
use Rattle.ps_model.proofs.Units.{unit_from}
use Rattle.ps_model.proofs.Coefficients.{linear_form, same_values}
use Rattle.ps_model.proofs.Values.{linear_form-scaled, linear_form-product, linear_form-monomial, linear_form-residue}
use Rattle.ps_model.proofs.RingLaws.{mul-mod_last, zero-sum, sum-zero, sum-assoc, sum-difference, zero-product}
use Rattle.ps_model.proofs.RingLaws.{one-product, product-comm}
use Rattle.ps_model.proofs.SumsBetween.{sum_between-none, sum_between-suc, sum_between-same, sum_between-zero}
use Rattle.ps_model.proofs.SumsBetween.{sum_between-first, sum_between-split, sum_between-swap, sum_to-between}
use Rattle.ps_model.proofs.Truncations.{truncated-suc, truncated-product, sum_to-same, truncated-zero}
use Rattle.ps_model.proofs.Below.{truncated-below}
use Rattle.ps_model.proofs.Degrees.{below_of-product}
use Rattle.ps_model.proofs.Division.{y_power}
use Rattle.ps_model.proofs.Preparation.{flat_y}
use Rattle.ps_model.proofs.Existence.{monic_y_degree}
use Rattle.ps_model.proofs.Factors.{truncated-lower}
use Rattle.ps_model.proofs.Slices.{slice_at-product, same_part}
use Rattle.ps_model.proofs.SliceValues.{slice_at-top, slice_at-top_later, slice_at-monic_above, slice_at-flat}
use Rattle.ps_model.proofs.SliceValues.{slice_at-constant}

module _ (R : Ring) where
  -- times a constant
  pub product-constant : (c : ℕ) (p : Polynomial R) → product R p (monomial R c R.origin) ≡ scaled R c p
  product-constant c p = product-comm R p _
      ∙ same_values R _ _ (λ f. simp (linear_form-product, linear_form-monomial, linear_form-scaled, R.origin-plus))

  pub scaled-scaled : (b c : ℕ) (p : Polynomial R) → scaled R b (scaled R c p) ≡ scaled R (b * c) p
  scaled-scaled b c p = same_values R _ _
      (λ f. simp (linear_form-scaled, mul-mod_last) (ap (λ n. n % R.modulus) (omega arith)))

  pub scaled-unit : (c : ℕ) (p : Polynomial R) → c % R.modulus ≡ 1 → scaled R c p ≡ p
  scaled-unit c p h = same_values R _ _
      (λ f. simp linear_form-scaled (sym (mul-mod_first c (linear_form R f p) R.modulus)
      ∙ ap (λ n. (n * linear_form R f p) % R.modulus) h ∙ ap (λ n. n % R.modulus) (one-mul (linear_form R f p))
      ∙ linear_form-residue R f p))

  -- of degree 0 there is nothing to cross
  crossed_none : (i h : ℕ) (a w : ℕ → ℕ → Polynomial R) → crossed_product 0 a w i h ≡ nought R
  crossed_none i h a w = sum_between-none R 1 1 (λ s. product R (a s i) (w (0 - s) h)) (omega arith)

  crossed_sum_none : (n : ℕ) (h : ℕ → ℕ) (a w : ℕ → ℕ → Polynomial R)
      → sum_between R 0 n (λ i. crossed_product 0 a w i (h i)) ≡ nought R
  crossed_sum_none n h a w = sum_between-zero R 0 n (λ i. crossed_product 0 a w i (h i))
      (λ i _ _. crossed_none i (h i) a w)

module _ (R : Ring) (k q : ℕ) (G p u : Polynomial R) (monic : IsMonic k p)
    (flat : truncated R R.degree 0 p ≡ y_power R k) where
  abbrev a : ℕ → ℕ → Polynomial R
  a s i = slice_at R s i p

  abbrev w : ℕ → ℕ → Polynomial R
  w s j = slice_at R s j u

  -- the terms of a slice of the product with the slices of p at Y^i
  column : ℕ → ℕ → ℕ → Polynomial R
  column r l i = sum_between R 0 (suc r) (λ s. product R (a s i) (w (r - s) (l - i)))

  columns : (r l : ℕ) → slice_at R r l (product R p u) ≡ sum_between R 0 (suc l) (column r l)
  unfolding column
  columns r l = slice_at-product R r l p u ∙ sum_to-same R r _ _ (λ s _. sum_to-between R l _) ∙ sum_to-between R r _
      ∙ sum_between-swap R 0 (suc r) 0 (suc l) _

  column_low : (r l i : ℕ) → i < k → column r l i ≡ crossed_product r a w i (l - i)
  unfolding column
  column_low r l i h = sum_between-first R 0 (suc r) _ (omega arith)
      ∙ ap (λ t. sum R (product R t (w (r - 0) (l - i))) (crossed_product r a w i (l - i)))
      (slice_at-flat R k i p flat (λ e. omega arith)) ∙ ap (λ t. sum R t (crossed_product r a w i (l - i)))
      (zero-product R _) ∙ zero-sum R _

  column_top : (r l : ℕ) → column r l k ≡ w r (l - k)
  unfolding column
  column_top r l = sum_between-first R 0 (suc r) _ (omega arith)
      ∙ (λ i. sum R (product R (slice_at-top R k p monic i) (slice_at R (less r i) (l - k) u)) (rest i))
      ∙ sum-zero R _ ∙ one-product R _
    where
      less : (r : ℕ) → r - 0 ≡ r
      less r = omega arith

      rest : sum_between R 1 (suc r) (λ s. product R (slice_at R s k p) (slice_at R (r - s) (l - k) u)) ≡ nought R
      rest = sum_between-zero R 1 (suc r) _ (λ s lo hi. ap (λ t. product R t (slice_at R (r - s) (l - k) u))
          (slice_at-top_later R s k p monic (omega arith)) ∙ zero-product R _)

  column_high : (r l i : ℕ) → k < i → column r l i ≡ nought R
  unfolding column
  column_high r l i h = sum_between-zero R 0 (suc r) _ (λ s lo hi. ap (λ t. product R t (slice_at R (r - s) (l - i) u))
      (slice_at-monic_above R k s i p monic h) ∙ zero-product R _)

  -- the slice of the product below Y^k
  low_slice : (r l : ℕ) → l < k → slice_at R r l (product R p u)
      ≡ sum R (sum_between R 0 l (λ i. crossed_product r a w i (l - i))) (crossed_product r a w l 0)
  low_slice r l h = columns r l ∙ sum_between-suc R 0 l _ (omega arith)
      ∙ λ i. sum R (sum_between-same R 0 l _ _ (λ j _ lt. column_low r l j (omega arith)) i)
      ((column_low r l l h ∙ ap (crossed_product r a w l) (none l)) i)
    where
      none : (l : ℕ) → l - l ≡ 0
      none l = omega arith

  -- the slice of the product at Y^(k+j)
  high_slice : (r j : ℕ) → slice_at R r (k + j) (product R p u)
      ≡ sum R (sum_between R 0 k (λ i. crossed_product r a w i (k + j - i))) (w r j)
  high_slice r j = columns r (k + j) ∙ sum_between-split R 0 k (suc (k + j)) _ (omega arith) (omega arith)
      ∙ (λ i. sum R (sum_between-same R 0 k _ _ (λ h _ lt. column_low r (k + j) h lt) i) (above i))
    where
      left : (k j : ℕ) → k + j - k ≡ j
      left k j = omega arith

      above : sum_between R k (suc (k + j)) (column r (k + j)) ≡ slice_at R r j u
      above = sum_between-first R k (suc (k + j)) _ (omega arith)
          ∙ (λ i. sum R ((column_top r (k + j) ∙ ap (λ n. slice_at R r n u) (left k j)) i)
          (sum_between-zero R (suc k) (suc (k + j)) _ (λ i lo hi. column_high r (k + j) i (omega arith)) i))
          ∙ sum-zero R _

  constant_w : w 0 0 ≡ monomial R (coefficient R u R.origin) R.origin
  constant_w = slice_at-constant R 0 u ∙ ap (λ z. monomial R (coefficient R u z) R.origin) R.y-zero

  module _ (r e : ℕ) (positive : 0 < r) (inverts : (coefficient R u R.origin * e) % R.modulus ≡ 1)
      (follows : FollowsRecurrences k q r e (λ l. slice_at R r l G) (λ s i. slice_at R s i p)
      (λ s j. slice_at R s j u)) where
    earlier : ℕ → Polynomial R
    earlier l = sum_between R 0 l (λ h. crossed_product r a w h (l - h))

    middle : ℕ → Polynomial R
    middle l = sum_between R 1 r (λ s. product R (a s l) (w (r - s) 0))

    low_is : (l : ℕ) → l < k → slice_at R r l (product R p u) ≡ slice_at R r l G
    unfolding earlier middle
    low_is l h = low_slice r l h ∙ ap (sum R (earlier l)) last ∙ sym (sum-assoc R _ _ _)
        ∙ sum-difference R (sum R (earlier l) (middle l)) (slice_at R r l G)
      where
        rest : Polynomial R
        rest = difference R (slice_at R r l G) (sum R (earlier l) (middle l))

        none : (r : ℕ) → r - r ≡ 0
        none r = omega arith

        own : product R (slice_at R r l p) (slice_at R (r - r) 0 u) ≡ rest
        own = ap (λ n. product R (slice_at R r l p) (slice_at R n 0 u)) (none r)
            ∙ ap (product R (slice_at R r l p)) constant_w ∙ product-constant R _ _
            ∙ ap (scaled R (coefficient R u R.origin)) (follows.of_p l h) ∙ scaled-scaled R _ e _
            ∙ scaled-unit R _ _ inverts

        last : crossed_product r a w l 0 ≡ sum R (middle l) rest
        last = sum_between-suc R 1 r _ (omega arith) ∙ ap (sum R (middle l)) own

    high_is : (j : ℕ) → j ≤ q → slice_at R r (k + j) (product R p u) ≡ slice_at R r (k + j) G
    high_is j h = high_slice r j ∙ ap (sum R (sum_between R 0 k (λ i. crossed_product r a w i (k + j - i))))
        (follows.of_u j h) ∙ sum-difference R _ _

    pub slice_is : (l : ℕ) → l ≤ k + q → slice_at R r l (product R p u) ≡ slice_at R r l G
    slice_is l h = elim (cases_lt l k) as (λ _. slice_at R r l (product R p u) ≡ slice_at R r l G) [
      | inl lt ↦ low_is l lt
      | inr le ↦ subst (λ n. slice_at R r n (product R p u) ≡ slice_at R r n G) (back l le)
          (high_is (l - k) (omega arith))
    ]
      where
        back : (l : ℕ) → k ≤ l → k + (l - k) ≡ l
        back l le = omega arith

module _ (R : Ring) (k q : ℕ) (G p u : Polynomial R) (G_powers : HasNoPowerAbove (k + q) G)
    (monic : IsMonic k p) (u_powers : HasNoPowerAbove q u) where
  product_powers : HasNoPowerAbove (k + q) (product R p u)
  product_powers = truncated-below R R.y_degree (k + q) _ ∙ below_of-product R R.y_degree R.y_degree_adds k q p u
      (monic_y_degree R k p monic) (sym (truncated-below R R.y_degree q u) ∙ u_powers)

  pub prepared_step : (d e : ℕ) → HasNoDegreeAbove (suc d) p → HasNoDegreeAbove (suc d) u
      → IsPrepared G k q d (truncated R R.degree d p) (truncated R R.degree d u)
      → (coefficient R u R.origin * e) % R.modulus ≡ 1
      → FollowsRecurrences k q (suc d) e (λ l. slice_at R (suc d) l G) (λ s i. slice_at R s i p)
      (λ s j. slice_at R s j u)
      → IsPrepared G k q (suc d) p u
  prepared_step d e p_within u_within before inverts follows = record {
    monic = monic;
    at_origin = flat;
    u_no_power_above = u_powers;
    u_unit = unit_from R _ e inverts;
    p_within = p_within;
    u_within = u_within;
    product_is = truncated-suc R R.degree d _ ∙ (λ i. sum R (old i) (new i)) ∙ sym (truncated-suc R R.degree d G);
  }
    where
      flat : truncated R R.degree 0 p ≡ y_power R k
      flat = sym (truncated-lower R R.degree 0 d p (omega arith)) ∙ before.at_origin

      old : truncated R R.degree d (product R p u) ≡ truncated R R.degree d G
      old = truncated-product R R.degree R.degree_adds d p u ∙ before.product_is

      new : homogeneous_part R R.degree (suc d) (product R p u) ≡ homogeneous_part R R.degree (suc d) G
      new = same_part R (suc d) (k + q) _ _ product_powers G_powers
          (slice_is R k q G p u monic flat (suc d) e (omega arith) inverts follows)

  -- of degree 0
  pub prepared_first : p ≡ y_power R k → HasNoDegreeAbove 0 u → IsUnit R.modulus (coefficient R u R.origin)
      → ((l : ℕ) → l < k → slice_at R 0 l G ≡ nought R) → ((j : ℕ) → j ≤ q → slice_at R 0 j u ≡ slice_at R 0 (k + j) G)
      → IsPrepared G k q 0 p u
  prepared_first is u_within unit none same = record {
    monic = monic;
    at_origin = flat;
    u_no_power_above = u_powers;
    u_unit = unit;
    p_within = flat ∙ sym is;
    u_within = u_within;
    product_is = truncated-zero R R.degree _ ∙ same_part R 0 (k + q) _ _ product_powers G_powers slices
        ∙ sym (truncated-zero R R.degree G);
  }
    where
      flat : truncated R R.degree 0 p ≡ y_power R k
      flat = truncated-zero R R.degree p ∙ ap (homogeneous_part R R.degree 0) is ∙ flat_y R k

      slices : (l : ℕ) → l ≤ k + q → slice_at R 0 l (product R p u) ≡ slice_at R 0 l G
      slices l h = elim (cases_lt l k) as (λ _. slice_at R 0 l (product R p u) ≡ slice_at R 0 l G) [
        | inl lt ↦ low_slice R k q G p u monic flat 0 l lt
            ∙ (λ i. sum R (crossed_sum_none R l (λ j. l - j) (λ s i. slice_at R s i p) (λ s j. slice_at R s j u) i)
            (crossed_none R l 0 (λ s i. slice_at R s i p) (λ s j. slice_at R s j u) i)) ∙ zero-sum R _ ∙ sym (none l lt)
        | inr le ↦ subst (λ n. slice_at R 0 n (product R p u) ≡ slice_at R 0 n G) (back l le)
            (high_slice R k q G p u monic flat 0 (l - k)
            ∙ (λ i. sum R (crossed_sum_none R k (λ j. k + (l - k) - j) (λ s i. slice_at R s i p)
            (λ s j. slice_at R s j u) i) (slice_at R 0 (l - k) u)) ∙ zero-sum R _ ∙ same (l - k) (omega arith))
      ]
        where
          back : (l : ℕ) → k ≤ l → k + (l - k) ≡ l
          back l le = omega arith
