-- At the origin a demonstration's polynomial is the product of the powers of its roots.
use Rattle.std.proofs.Common.{◌≡◌, ℕ, zero, suc, ◌+◌, ◌-◌, ◌%◌, ◌<◌, ◌≤◌, List, [], ◌∷◌, map, sym, ◌∙◌, ap}
use Rattle.std.proofs.Common.{arith}
use Rattle.std.specs.List.{range_with_len}
use Rattle.std.proofs.Math.Nat.{mod-eq_of_lt, mod_self}
use Rattle.ps_model.specs.declared.expr.Expr.{Expr, Number, Name, MainVariable, Sum, Power}
use Rattle.ps_model.specs.declared.expr.Expr.TheBlock.{hidden-the_row-Summand-0, shape-the_row-Summand-0}
use Rattle.ps_model.specs.declared.expr.Expr.TheBlock.{hidden-the_row-Factor-1, shape-the_row-Factor-1}
use Rattle.ps_model.specs.declared.expr.Expr.TheBlock.{hidden-the_row-Expr-2}
use denote.Hole.Carrier.{hidden}
use Rattle.ps_model.specs.declared.job.Root.{Root}
use Rattle.ps_model.specs.Bounds.{IsMonic}
use Rattle.ps_model.specs.Examples.{added, multiplied}
use Rattle.ps_model.specs.Factors.{root_powers, total_times}
use Rattle.ps_model.specs.Polynomial.{Polynomial, coefficient, monomial, negative, one, power, product, sum}
use Rattle.ps_model.specs.Polynomial.{zero as nought}
use Rattle.ps_model.specs.Ring.{Ring}
use Rattle.ps_model.specs.SeriesRing.{SeriesRing, ring, degree, Poly}
use Rattle.ps_model.specs.Shift.{linear}
use Rattle.ps_model.specs.Truncation.{truncated, homogeneous_part}
use Rattle.ps_model.specs.Value.{IsValue, variable_key}
use Rattle.ps_model.proofs.Below.{homogeneous_part-other}
use Rattle.ps_model.proofs.Homogeneous.{IsHomogeneous, homogeneous-monomial, homogeneous-power, homogeneous-product}
use Rattle.ps_model.proofs.Monic.{monic-linear_power, monic-one, monic-product, monic_top}
use Rattle.ps_model.proofs.PowerBounds.{truncated-monomial, truncated-nothing}
use Rattle.ps_model.proofs.RingLaws.{product-assoc, product-one, product-zero, sum-zero, zero-product, zero-sum}
use Rattle.ps_model.proofs.ShiftDegrees.{homogeneous-linear}
use Rattle.ps_model.proofs.TopTerms.{monomial-negative, monomial-nothing, monomial-same, top-coefficient}
use Rattle.ps_model.proofs.Truncations.{truncated-zero}
use Rattle.demo.specs.Generator.{degree_by, less, powers_by, roots_by, summand, term_by, tree_by}

-- the product of root powers is monic
module _ (R : Ring) where
  monic_roots : (rs : List Root) → IsMonic (total_times rs) (root_powers {R = R} rs)
  monic_roots [] = monic-one R
  monic_roots (r ∷ rs) = monic-product R r.times (total_times rs) _ _
      (monic-linear_power R (R.modulus - r.value) r.times) (monic_roots rs)

  pub top_one : (rs : List Root) → coefficient R (root_powers {R = R} rs) (R.y (total_times rs)) ≡ 1
  top_one rs = top-coefficient R (total_times rs) 1 (root_powers {R = R} rs) (let two = R.at_least_two in omega arith)
      (monic_top R (total_times rs) (root_powers {R = R} rs) (monic_roots rs))

  -- what has a degree is 0 at the origin
  gone : (c : ℕ) (k : R.Key) → 0 < R.degree k → truncated R R.degree 0 (monomial R c k) ≡ nought R
  gone c k lt = truncated-zero R R.degree (monomial R c k)
      ∙ ap (homogeneous_part R R.degree 0) (sym (homogeneous-monomial R R.degree c k))
      ∙ homogeneous_part-other R R.degree 0 (R.degree k) (monomial R c k) (λ e. omega arith)

  -- products and powers of what has degree 0
  flat_product : (p q : Polynomial R) → IsHomogeneous R R.degree 0 p → IsHomogeneous R R.degree 0 q
      → truncated R R.degree 0 (product R p q) ≡ product R p q
  flat_product p q hp hq = truncated-zero R R.degree (product R p q)
      ∙ homogeneous-product R R.degree R.degree_adds 0 0 p q hp hq

  linear_flat : (c e : ℕ) → IsHomogeneous R R.degree 0 (power R (linear R c) e)
  linear_flat c e = homogeneous-power R R.degree R.degree_adds e (linear R c) (homogeneous-linear R c)

  four_grouped : (p q r s : Polynomial R) → product R (product R (product R p q) r) s
      ≡ product R p (product R q (product R r (product R s (one R))))
  four_grouped p q r s = product-assoc R (product R p q) r s ∙ product-assoc R p q (product R r s)
      ∙ ap (λ t. product R p (product R q (product R r t))) (sym (product-one R s))

module _ (S : SeriesRing) where
  abbrev R : Ring
  R = ring S

  abbrev cut : Poly S → Poly S
  cut p = truncated R R.degree 0 p

  -- a number times a variable
  multiple_value : (c i : ℕ) → 0 < degree S (variable_key S.variables i) → (p : Poly S)
      → IsValue S 0 (multiplied (Number c) (Name i)) p → p ≡ nought R
  unfolding hidden-the_row-Factor-1 shape-the_row-Factor-1 hidden
  multiple_value c i some p (n, is, (v, next, is', step, at)) = at ∙ step
      ∙ ap (λ q. cut (product R n q)) (is' ∙ gone R 1 (variable_key S.variables i) some)
      ∙ ap cut (product-zero R n) ∙ truncated-nothing R R.degree 0

  module _ (x_some : 0 < degree S (variable_key S.variables 0)) (y_some : 0 < degree S (variable_key S.variables 1))
    where
      sum_value : (a b : ℕ) (p : Poly S)
          → IsValue S 0 (added (multiplied (Number a) (Name 0)) (multiplied (Number b) (Name 1))) p
          → p ≡ nought R
      unfolding hidden-the_row-Summand-0 shape-the_row-Summand-0 hidden
      sum_value a b p (v, others, is, (w, none, is', is_none, at'), at) = at
          ∙ (λ i. sum R (multiple_value a 0 x_some v is i) ((at'
          ∙ (λ j. sum R (multiple_value b 1 y_some w is' j) (is_none j)) ∙ zero-sum R (nought R)) i))
          ∙ zero-sum R (nought R)

      term_value : (a b j : ℕ) (p : Poly S) → IsValue S 0 (term_by a b j) p → p ≡ nought R
      unfolding hidden-the_row-Factor-1 shape-the_row-Factor-1 hidden
      term_value a b j p (v, is, (w, next, is', step, at)) = at ∙ step
          ∙ ap (λ q. cut (product R q w)) (sum_value a b v is)
          ∙ ap cut (zero-product R w) ∙ truncated-nothing R R.degree 0

      terms_value : (a b : ℕ → ℕ) (i n : ℕ) (p : Poly S)
          → IsValue S 0 (Sum (map (λ j. summand (term_by (a j) (b j) j)) (range_with_len i n))) p → p ≡ nought R
      unfolding hidden-the_row-Summand-0 shape-the_row-Summand-0 hidden
      terms_value a b i zero p is = is
      terms_value a b i (suc n) p (v, others, is, are, at) = at
          ∙ (λ l. sum R (term_value (a i) (b i) i v is l) (terms_value a b (i + 1) n others are l))
          ∙ zero-sum R (nought R)

      -- Y - c
      y_kept : cut (monomial R 1 (R.y 1)) ≡ monomial R 1 (R.y 1)
      y_kept = truncated-monomial R R.degree 0 1 (R.y 1) (let flat = R.degree-y 1 in omega arith)

      number_kept : (c : ℕ) → cut (monomial R c R.origin) ≡ monomial R c R.origin
      number_kept c = truncated-monomial R R.degree 0 c R.origin (let flat = R.degree_adds.1 in omega arith)

      less_value : (c : ℕ) → c ≤ S.modulus → (p : Poly S) → IsValue S 0 (less c) p → p ≡ linear R (S.modulus - c)
      unfolding hidden-the_row-Summand-0 shape-the_row-Summand-0 hidden linear
      less_value c le p (v, others, is, (w, none, is', is_none, at'), at) = at
          ∙ (λ i. sum R ((is ∙ y_kept) i) ((at'
          ∙ (λ j. sum R ((ap (negative R) (is' ∙ number_kept c) ∙ monomial-negative R c R.origin le) j) (is_none j))
          ∙ sum-zero R _) i))

      main_value : (p : Poly S) → IsValue S 0 MainVariable p → p ≡ linear R (S.modulus - 0)
      unfolding linear
      main_value p is = is ∙ y_kept ∙ sym (ap (λ q. sum R (monomial R 1 (R.y 1)) q)
          (monomial-same R (S.modulus - 0) 0 R.origin (whole S.modulus S.at_least_two) ∙ monomial-nothing R R.origin)
          ∙ sum-zero R _)
        where
          whole : (m : ℕ) → 2 ≤ m → (m - 0) % m ≡ 0 % m
          whole m h = let same : m - 0 ≡ m = omega arith in
              ap (λ n. n % m) same ∙ mod_self m ∙ sym (mod-eq_of_lt (let some : 0 < m = omega arith in some))

      power_value : (e : Expr) (c k : ℕ) → ((v : Poly S) → IsValue S 0 e v → v ≡ linear R c) → (p : Poly S)
          → IsValue S 0 (Power e k) p → p ≡ power R (linear R c) k
      unfolding hidden-the_row-Expr-2 hidden
      power_value e c k base p (v, is, at) = at ∙ ap (λ q. cut (power R q k)) (base v is)
          ∙ truncated-zero R R.degree (power R (linear R c) k) ∙ linear_flat R c k

      module _ (k1 k2 k3 k4 : ℕ) (large : 3 ≤ S.modulus) where
        abbrev root_of : ℕ → ℕ → Poly S
        root_of c k = power R (linear R (S.modulus - c)) k

        powers_value : (p : Poly S) → IsValue S 0 (powers_by k1 k2 k3 k4) p
            → p ≡ root_powers {R = R} (roots_by k1 k2 k3 k4)
        unfolding hidden-the_row-Factor-1 shape-the_row-Factor-1 hidden
        powers_value p (v1, is1, (v2, n2, is2, step2, (v3, n3, is3, step3, (v4, n4, is4, step4, at)))) =
            at ∙ step4 ∙ (λ i. cut (product R (third i) (fourth_root i)))
            ∙ flat_product R (product R (product R (root_of 0 k1) (root_of 1 k2)) (root_of 2 k3)) (root_of 3 k4) flat3
            (linear_flat R _ k4)
            ∙ four_grouped R (root_of 0 k1) (root_of 1 k2) (root_of 2 k3) (root_of 3 k4)
          where
            first_root : v1 ≡ root_of 0 k1
            first_root = power_value MainVariable (S.modulus - 0) k1 main_value v1 is1

            second_root : v2 ≡ root_of 1 k2
            second_root = power_value (less 1) (S.modulus - 1) k2 (less_value 1 (omega arith)) v2 is2

            third_root : v3 ≡ root_of 2 k3
            third_root = power_value (less 2) (S.modulus - 2) k3 (less_value 2 (omega arith)) v3 is3

            fourth_root : v4 ≡ root_of 3 k4
            fourth_root = power_value (less 3) (S.modulus - 3) k4 (less_value 3 large) v4 is4

            flat2 : IsHomogeneous R R.degree 0 (product R (root_of 0 k1) (root_of 1 k2))
            flat2 = homogeneous-product R R.degree R.degree_adds 0 0 _ _ (linear_flat R _ k1) (linear_flat R _ k2)

            flat3 : IsHomogeneous R R.degree 0 (product R (product R (root_of 0 k1) (root_of 1 k2)) (root_of 2 k3))
            flat3 = homogeneous-product R R.degree R.degree_adds 0 0 _ _ flat2 (linear_flat R _ k3)

            second : n2 ≡ product R (root_of 0 k1) (root_of 1 k2)
            second = step2 ∙ (λ i. cut (product R (first_root i) (second_root i)))
                ∙ flat_product R (root_of 0 k1) (root_of 1 k2) (linear_flat R _ k1) (linear_flat R _ k2)

            third : n3 ≡ product R (product R (root_of 0 k1) (root_of 1 k2)) (root_of 2 k3)
            third = step3 ∙ (λ i. cut (product R (second i) (third_root i)))
                ∙ flat_product R (product R (root_of 0 k1) (root_of 1 k2)) (root_of 2 k3) flat2 (linear_flat R _ k3)

        pub tree_value : (a b : ℕ → ℕ) (p : Poly S) → IsValue S 0 (tree_by k1 k2 k3 k4 a b) p
            → p ≡ root_powers {R = R} (roots_by k1 k2 k3 k4)
        unfolding hidden-the_row-Summand-0 shape-the_row-Summand-0 hidden
        tree_value a b p (v, others, is, are, at) = at
            ∙ (λ i. sum R (powers_value v is i) (terms_value a b 0 (degree_by k1 k2 k3 k4) others are i))
            ∙ sum-zero R _
