-- Slices of what is bounded, monic, truncated, or a slice times a power of Y.
use Rattle.std.proofs.Common.{◌≡◌, ℕ, zero, suc, ◌-◌, ◌<◌, ◌≤◌, false, ◌&&◌, sym, ◌∙◌, ap, arith}
use Rattle.std.specs.Prelude.{◌==◌}
use Rattle.std.proofs.Math.Dec.{leb, ltb}
use Rattle.std.proofs.lemmas.Bool.Decides.{nat_tests}
use Rattle.ps_model.specs.Ring.{Ring}
use Rattle.ps_model.specs.Polynomial.{Polynomial, zero as nought, one, monomial, product, coefficient, kept_terms}
use Rattle.ps_model.specs.Truncation.{truncated, homogeneous_part}
use Rattle.ps_model.specs.Bounds.{HasNoPowerAbove, HasNoDegreeAbove, IsMonic}
use Rattle.ps_model.specs.Bounds.{IsSlice}
use Rattle.ps_model.specs.Slices.{slice_at, raised}
use Rattle.ps_model.proofs.RingLaws.{product-zero, product-one, one-product}
use Rattle.ps_model.proofs.KeptTerms.{kept_terms-kept_terms, kept_terms-zero}
use Rattle.ps_model.proofs.Truncations.{truncated-zero, homogeneous_part-truncated, kept_terms-never, same_truncation}
use Rattle.ps_model.proofs.Below.{below, truncated-below, homogeneous_part-homogeneous_part, homogeneous_part-other}
use Rattle.ps_model.proofs.Homogeneous.{IsHomogeneous, homogeneous-product, homogeneous-flat}
use Rattle.ps_model.proofs.Degrees.{kept_terms-commute, homogeneous-below}
use Rattle.ps_model.proofs.Division.{down, y_power, down-up, kept_terms-down, y_degree-lower}
use Rattle.ps_model.proofs.Origin.{constant_is, coefficient-down}
use Rattle.ps_model.proofs.Preparation.{flat_y, degree-down}
use Rattle.ps_model.proofs.Existence.{y_degree_y}
use Rattle.ps_model.proofs.Monic.{monic_top, monic_from}
use Rattle.ps_model.proofs.Slices.{slice_at-down, up_slice_at}

module _ (R : Ring) where
  one_down : (j : ℕ) → down R j (y_power R j) ≡ one R
  one_down j = ap (down R j) (sym (product-one R _)) ∙ down-up R j (one R)

  y_zero : y_power R 0 ≡ one R
  unfolding one
  y_zero = ap (monomial R 1) R.y-zero

  -- division by Y^0
  pub down-zero : (p : Polynomial R) → down R 0 p ≡ p
  down-zero p = ap (down R 0) (sym (ap (λ t. product R t p) y_zero ∙ one-product R p)) ∙ down-up R 0 p

  down-nothing : (j : ℕ) → down R j (nought R) ≡ nought R
  down-nothing j = ap (down R j) (sym (product-zero R (y_power R j))) ∙ down-up R j (nought R)

  parts_swap : (r j : ℕ) (p : Polynomial R) → homogeneous_part R R.y_degree j (homogeneous_part R R.degree r p)
      ≡ homogeneous_part R R.degree r (homogeneous_part R R.y_degree j p)
  unfolding homogeneous_part
  parts_swap r j p = kept_terms-commute R _ _ p

  pub part-nothing : (d : R.Key → ℕ) (r : ℕ) → homogeneous_part R d r (nought R) ≡ nought R
  unfolding homogeneous_part
  part-nothing d r = kept_terms-zero R _

  pub slice_at-swap : (r j : ℕ) (p : Polynomial R) → slice_at R r j p
      ≡ down R j (homogeneous_part R R.degree r (homogeneous_part R R.y_degree j p))
  slice_at-swap r j p = slice_at-down R r j p ∙ ap (down R j) (parts_swap r j p)

  -- where p has nothing at Y^j
  slice_at-nothing : (r j : ℕ) (p : Polynomial R) → homogeneous_part R R.y_degree j p ≡ nought R → slice_at R r j p
      ≡ nought R
  slice_at-nothing r j p h = slice_at-swap r j p ∙ ap (λ t. down R j (homogeneous_part R R.degree r t)) h
      ∙ ap (down R j) (part-nothing R.degree r) ∙ down-nothing j

  part-below_above : (d : R.Key → ℕ) (r k : ℕ) (p : Polynomial R) → k ≤ r → homogeneous_part R d r (below R d k p)
      ≡ nought R
  unfolding homogeneous_part below
  part-below_above d r k p h = kept_terms-kept_terms R _ _ p ∙ (λ i. kept_terms R (λ x. never (d x) i) p)
      ∙ kept_terms-never R d p
    where
      never : (a : ℕ) → (ltb a k && (a == r)) ≡ false
      never a = grind (arith, nat_tests)

  pub slice_at-above : (K r j : ℕ) (p : Polynomial R) → HasNoPowerAbove K p → K < j → slice_at R r j p ≡ nought R
  slice_at-above K r j p hp h = slice_at-nothing r j p
      (ap (homogeneous_part R R.y_degree j) (sym hp ∙ truncated-below R R.y_degree K p) ∙ part-below_above R.y_degree j
      (suc K) p (omega arith))

  pub slice_at-degree_above : (D r j : ℕ) (p : Polynomial R) → HasNoDegreeAbove D p → D < r → slice_at R r j p
      ≡ nought R
  slice_at-degree_above D r j p hp h = slice_at-down R r j p ∙ ap (λ t. down R j (homogeneous_part R R.y_degree j t))
      (ap (homogeneous_part R R.degree r) (sym hp ∙ truncated-below R R.degree D p) ∙ part-below_above R.degree r
      (suc D) p (omega arith))
      ∙ ap (down R j) (part-nothing R.y_degree j) ∙ down-nothing j

  pub slice_at-truncated : (D r j : ℕ) (p : Polynomial R) → r ≤ D → slice_at R r j (truncated R R.degree D p)
      ≡ slice_at R r j p
  slice_at-truncated D r j p h = slice_at-down R r j _ ∙ ap (λ t. down R j (homogeneous_part R R.y_degree j t))
      (homogeneous_part-truncated R R.degree r D p h) ∙ sym (slice_at-down R r j p)

  pub slice_at-top : (k : ℕ) (p : Polynomial R) → IsMonic k p → slice_at R 0 k p ≡ one R
  slice_at-top k p hp = slice_at-swap 0 k p ∙ ap (down R k) (ap (homogeneous_part R R.degree 0) (monic_top R k p hp)
      ∙ flat_y R k) ∙ one_down k

  pub slice_at-top_later : (r k : ℕ) (p : Polynomial R) → IsMonic k p → 0 < r → slice_at R r k p ≡ nought R
  slice_at-top_later r k p hp h = slice_at-swap r k p
      ∙ ap (down R k) (ap (homogeneous_part R R.degree r) (monic_top R k p hp ∙ sym (flat_y R k))
      ∙ homogeneous_part-other R R.degree r 0 _ (λ e. omega arith)) ∙ down-nothing k

  monic_above : (k j : ℕ) (p : Polynomial R) → IsMonic k p → k < j → homogeneous_part R R.y_degree j p ≡ nought R
  unfolding homogeneous_part
  monic_above k j p hp h = sym (kept_terms-kept_terms R _ _ p ∙ λ i. kept_terms R (λ x. above (R.y_degree x) i) p)
      ∙ ap (kept_terms R (λ x. R.y_degree x == j)) (hp ∙ sym (y_degree_y R k))
      ∙ homogeneous_part-other R R.y_degree j k _ (λ e. omega arith)
    where
      above : (a : ℕ) → (leb k a && (a == j)) ≡ (a == j)
      above a = grind (arith, nat_tests)

  pub slice_at-monic_above : (k r j : ℕ) (p : Polynomial R) → IsMonic k p → k < j → slice_at R r j p ≡ nought R
  slice_at-monic_above k r j p hp h = slice_at-nothing r j p (monic_above k j p hp h)

  pub slice_at-flat : (k j : ℕ) (p : Polynomial R) → truncated R R.degree 0 p ≡ y_power R k → (j ≡ k → ⊥)
      → slice_at R 0 j p ≡ nought R
  slice_at-flat k j p hp h = slice_at-down R 0 j p ∙ ap (λ t. down R j (homogeneous_part R R.y_degree j t))
      (sym (truncated-zero R R.degree p) ∙ hp ∙ sym (y_degree_y R k))
      ∙ ap (down R j) (homogeneous_part-other R R.y_degree j k _ h) ∙ down-nothing j

  pub y_degree-down : (j : ℕ) (p : Polynomial R) → homogeneous_part R R.y_degree 0 (down R j p)
      ≡ down R j (homogeneous_part R R.y_degree j p)
  unfolding homogeneous_part
  y_degree-down j p = kept_terms-down R _ (λ x. R.y_degree x == j) j p (λ x le. ap (λ n. n == 0) (y_degree-lower R j x)
      ∙ at (R.y_degree x) le)
    where
      at : (a : ℕ) → j ≤ a → ((a - j) == 0) ≡ (a == j)
      at a le = grind (arith, nat_tests)

  pub slice_at-as_down : (r j : ℕ) (p : Polynomial R) → slice_at R r j p ≡ homogeneous_part R R.y_degree 0
      (homogeneous_part R R.degree r (down R j p))
  slice_at-as_down r j p = slice_at-down R r j p ∙ sym (ap (homogeneous_part R R.y_degree 0) (degree-down R r j p)
      ∙ y_degree-down j _)

  -- of degree 0 a slice is a constant
  pub slice_at-constant : (j : ℕ) (p : Polynomial R) → slice_at R 0 j p ≡ monomial R (coefficient R p (R.y j)) R.origin
  slice_at-constant j p = slice_at-as_down 0 j p ∙ constant_is R (down R j p) ∙ ap (λ c. monomial R c R.origin)
      (coefficient-down R j p)

  -- a slice has its degree and no Y
  pub slice_degree : (r : ℕ) (p : Polynomial R) → IsSlice r p → IsHomogeneous R R.degree r p
  slice_degree r p hp = ap (homogeneous_part R R.degree r) (sym hp ∙ slice_at-as_down r 0 p) ∙ sym (parts_swap r 0 _)
      ∙ ap (homogeneous_part R R.y_degree 0) (homogeneous_part-homogeneous_part R R.degree r _)
      ∙ sym (slice_at-as_down r 0 p) ∙ hp

  pub slice_y_degree : (r : ℕ) (p : Polynomial R) → IsSlice r p → IsHomogeneous R R.y_degree 0 p
  slice_y_degree r p hp = ap (homogeneous_part R R.y_degree 0) (sym hp ∙ slice_at-as_down r 0 p)
      ∙ homogeneous_part-homogeneous_part R R.y_degree 0 _ ∙ sym (slice_at-as_down r 0 p) ∙ hp

  pub slice_from : (r : ℕ) (p : Polynomial R) → IsHomogeneous R R.degree r p → IsHomogeneous R R.y_degree 0 p
      → IsSlice r p
  slice_from r p hd hy = slice_at-down R r 0 p ∙ ap (λ t. down R 0 (homogeneous_part R R.y_degree 0 t)) hd
      ∙ ap (down R 0) hy ∙ down-zero p

  pub slice_at-IsSlice : (r j : ℕ) (p : Polynomial R) → IsSlice r (slice_at R r j p)
  slice_at-IsSlice r j p = slice_from r _
      (ap (homogeneous_part R R.degree r) (slice_at-as_down r j p) ∙ sym (parts_swap r 0 _)
      ∙ ap (homogeneous_part R R.y_degree 0) (homogeneous_part-homogeneous_part R R.degree r _)
      ∙ sym (slice_at-as_down r j p))
      (ap (homogeneous_part R R.y_degree 0) (slice_at-as_down r j p) ∙ homogeneous_part-homogeneous_part R R.y_degree 0
      _ ∙ sym (slice_at-as_down r j p))

  raised_degree : (r j : ℕ) (p : Polynomial R) → IsSlice r p → IsHomogeneous R R.degree r (raised R j p)
  raised_degree r j p hp = homogeneous-flat R R.degree R.degree_adds r (y_power R j) p (flat_y R j)
      (slice_degree r p hp)

  pub raised_y_degree : (r j : ℕ) (p : Polynomial R) → IsSlice r p → IsHomogeneous R R.y_degree j (raised R j p)
  raised_y_degree r j p hp = ap (λ n. homogeneous_part R R.y_degree n (raised R j p)) (omega arith)
      ∙ homogeneous-product R R.y_degree R.y_degree_adds j 0 (y_power R j) p (y_degree_y R j) (slice_y_degree r p hp)

  pub raised_homogeneous : (r j : ℕ) (p : Polynomial R) → IsSlice r p → IsHomogeneous R R.degree r (raised R j p)
  raised_homogeneous r j p hp = raised_degree r j p hp

  pub slice_at-raised : (r j : ℕ) (p : Polynomial R) → IsSlice r p → slice_at R r j (raised R j p) ≡ p
  slice_at-raised r j p hp = slice_at-down R r j _ ∙ ap (λ t. down R j (homogeneous_part R R.y_degree j t))
      (raised_degree r j p hp) ∙ ap (down R j) (raised_y_degree r j p hp) ∙ down-up R j p

  pub slice_at-raised_other : (r i j : ℕ) (p : Polynomial R) → IsSlice r p → (i ≡ j → ⊥)
      → slice_at R r i (raised R j p) ≡ nought R
  slice_at-raised_other r i j p hp h = slice_at-nothing r i _
      (ap (homogeneous_part R R.y_degree i) (sym (raised_y_degree r j p hp)) ∙ homogeneous_part-other R R.y_degree i j _
      h)

  pub slice_at-raised_degree : (s r i j : ℕ) (p : Polynomial R) → IsSlice r p → (s ≡ r → ⊥)
      → slice_at R s i (raised R j p) ≡ nought R
  slice_at-raised_degree s r i j p hp h = slice_at-down R s i _ ∙ ap (λ t. down R i (homogeneous_part R R.y_degree i t))
      (ap (homogeneous_part R R.degree s) (sym (raised_degree r j p hp)) ∙ homogeneous_part-other R R.degree s r _ h)
      ∙ ap (down R i) (part-nothing R.y_degree i) ∙ down-nothing i

  pub slice_at-zero : (r j : ℕ) → slice_at R r j (nought R) ≡ nought R
  slice_at-zero r j = slice_at-nothing r j (nought R) (part-nothing R.y_degree j)

  -- monic, by the slices at Y^k
  pub monic_from_slices : (D k : ℕ) (p : Polynomial R) → HasNoPowerAbove k p → HasNoDegreeAbove D p
      → slice_at R 0 k p ≡ one R → ((r : ℕ) → 0 < r → r ≤ D → slice_at R r k p ≡ nought R) → IsMonic k p
  monic_from_slices D k p hy hd first later = monic_from R k p (sym (truncated-below R R.y_degree k p) ∙ hy)
      (sym within ∙ same_truncation R R.degree D _ _ same ∙ y_within)
    where
      within : truncated R R.degree D (homogeneous_part R R.y_degree k p) ≡ homogeneous_part R R.y_degree k p
      within = unfold truncated homogeneous_part in kept_terms-commute R _ _ p ∙ ap (homogeneous_part R R.y_degree k) hd

      y_within : truncated R R.degree D (y_power R k) ≡ y_power R k
      y_within = truncated-below R R.degree D _ ∙ homogeneous-below R R.degree 0 (suc D) _ (omega arith) (flat_y R k)

      same : (r : ℕ) → r ≤ D → homogeneous_part R R.degree r (homogeneous_part R R.y_degree k p)
          ≡ homogeneous_part R R.degree r (y_power R k)
      same zero le = sym (parts_swap 0 k p) ∙ sym (up_slice_at R 0 k p) ∙ ap (product R (y_power R k)) first
          ∙ product-one R _ ∙ sym (flat_y R k)
      same (suc r) le = sym (parts_swap (suc r) k p) ∙ sym (up_slice_at R (suc r) k p) ∙ ap (product R (y_power R k))
          (later (suc r) (omega arith) le) ∙ product-zero R _
          ∙ sym (ap (homogeneous_part R R.degree (suc r)) (sym (flat_y R k)) ∙ homogeneous_part-other R R.degree
          (suc r) 0 _ (λ e. omega arith))
