-- Values of trees: one at most up to each degree, and truncated they are the values up to the lower degree.
use Rattle.std.proofs.Common.{◌≡◌, ℕ, zero, suc, ◌+◌, ◌*◌, ◌≤◌, Bool, true, false, cond, List, refl, sym, ◌∙◌, ap}
use Rattle.std.proofs.Common.{subst, arith, ◌||◌}
use Rattle.ps_model.specs.declared.expr.Expr.{Expr, Number, Name, MainVariable, Sum', Product', Power'}
use Rattle.ps_model.specs.declared.expr.Expr.{end_of-Expr, more_of-Expr}
use Rattle.ps_model.specs.declared.expr.Expr.{Row_of-Summand, end_of-Summand, more_of-Summand}
use Rattle.ps_model.specs.declared.expr.Expr.{Row_of-Factor, end_of-Factor, more_of-Factor}
use Rattle.ps_model.specs.Ring.{Ring}
use Rattle.ps_model.specs.Polynomial.{Polynomial, sum, negative, product, power}
use Rattle.ps_model.specs.Truncation.{truncated}
use Rattle.ps_model.specs.Bounds.{HasNoPowerAbove, HasNoDegreeAbove, IsUnit}
use Rattle.ps_model.specs.Prepared.{IsQuotient}
use Rattle.ps_model.specs.SeriesRing.{SeriesRing, ring, degree, Poly}
use Rattle.ps_model.specs.Tree.{has_y, summands_have_y}
use Rattle.ps_model.specs.Tree.{factors_have_y, divisors, summand_divisors, factor_divisors}
use Rattle.ps_model.specs.Value.{variable, IsValueWith, IsSumValueWith, IsProductValueWith, IsLaterValueWith}
use Rattle.ps_model.specs.Notation.{constant_term}
use Rattle.ps_model.proofs.Divisors.{AllOf, first_ones, last_ones, by_places}
use Rattle.ps_model.proofs.Truncations.{truncated-sum, truncated-product}
use Rattle.ps_model.proofs.Origin.{coefficient-truncated_constant}
use Rattle.ps_model.proofs.Quotients.{one_quotient, quotient-truncated}
use Rattle.ps_model.proofs.Factors.{truncated-again, truncated-lower, truncated-product_right}
use Rattle.ps_model.proofs.PowerBounds.{truncated-negative, truncated-nothing, truncated-monomial, power_bound-more}
use Rattle.ps_model.proofs.PowerBounds.{power_bound-truncated, power_bound-sum, power_bound-negative}
use Rattle.ps_model.proofs.PowerBounds.{power_bound-product, power_bound-power, power_bound-quotient}

left_false : (a b : Bool) → (a || b) ≡ false → a ≡ false
left_false true b e = e
left_false false b e = refl

right_false : (a b : Bool) → (a || b) ≡ false → b ≡ false
right_false true b e = absurd (cc)
right_false false b e = e

module _ (R : Ring) where
  pub power-truncated : (D e : ℕ) (p : Polynomial R) → truncated R R.degree D (power R (truncated R R.degree D p) e)
      ≡ truncated R R.degree D (power R p e)
  power-truncated D zero p = refl
  power-truncated D (suc e) p = truncated-product R R.degree R.degree_adds D _ _
      ∙ (λ i. truncated R R.degree D (product R (truncated-again R R.degree D p i) (power-truncated D e p i)))
      ∙ sym (truncated-product R R.degree R.degree_adds D p (power R p e))

  power_bound-signed : (minus : Bool) (K : ℕ) (v : Polynomial R) → HasNoPowerAbove K v
      → HasNoPowerAbove K (cond minus (negative R v) v)
  power_bound-signed true K v h = power_bound-negative R K v h
  power_bound-signed false K v h = h

  signed-truncated : (minus : Bool) (D : ℕ) (v : Polynomial R)
      → truncated R R.degree D (cond minus (negative R v) v)
      ≡ cond minus (negative R (truncated R R.degree D v)) (truncated R R.degree D v)
  signed-truncated true D v = truncated-negative R R.degree D v
  signed-truncated false D v = refl

  -- only the divisor up to the degree counts
  quotient_cut : (D : ℕ) (a b q : Polynomial R) → IsQuotient D a b q → IsQuotient D a (truncated R R.degree D b) q
  quotient_cut D a b q is = record {
    within = is.within;
    multiplies_back = sym (truncated-product_right R R.degree R.degree_adds D q b) ∙ is.multiplies_back;
  }

-- a variable has no Y
pub variable_flat : (S : SeriesRing) (i : ℕ) → HasNoPowerAbove 0 (variable S i)
variable_flat S i = truncated-monomial (ring S) (ring S).y_degree 0 1 _ (omega arith)

module _ (S : SeriesRing) (values : ℕ → Poly S) where
  module _ (D : ℕ) where
    mutual
      -- a value has no entry above the degree
      pub value_within : (e : Expr) (p : Poly S) → IsValueWith S D values e p → HasNoDegreeAbove D p
      value_within (Number c) p is = subst (HasNoDegreeAbove D) (sym is) (truncated-again (ring S) (degree S) D _)
      value_within (Name i) p is = subst (HasNoDegreeAbove D) (sym is) (truncated-again (ring S) (degree S) D _)
      value_within MainVariable p is = subst (HasNoDegreeAbove D) (sym is) (truncated-again (ring S) (degree S) D _)
      value_within (Sum' shape summands) p is = sum_within summands p is
      value_within (Product' shape factors) p is = product_within factors p is
      value_within (Power' shape (more_of-Expr base end_of-Expr) exponent) p (v, is, at) =
          subst (HasNoDegreeAbove D) (sym at) (truncated-again (ring S) (degree S) D _)

      sum_within : {m : _} (row : Row_of-Summand m) (p : Poly S) → IsSumValueWith S D values row p
          → HasNoDegreeAbove D p
      sum_within end_of-Summand p is = subst (HasNoDegreeAbove D) (sym is) (truncated-nothing (ring S) (degree S) D)
      sum_within (more_of-Summand minus of rest) p (v, others, is, are, at) = subst (HasNoDegreeAbove D) (sym at)
          (truncated-sum (ring S) (degree S) D _ _ ∙ (λ i. sum (ring S)
          ((signed-truncated (ring S) minus D v
          ∙ ap (λ w. cond minus (negative (ring S) w) w) (value_within of v is)) i)
          (sum_within rest others are i)))

      product_within : {m : _} (row : Row_of-Factor m) (p : Poly S) → IsProductValueWith S D values row p
          → HasNoDegreeAbove D p
      product_within end_of-Factor p is = absurd is
      product_within (more_of-Factor divide of rest) p (v, is, later) =
          later_within rest v p (value_within of v is) later

      later_within : {m : _} (row : Row_of-Factor m) (first p : Poly S) → HasNoDegreeAbove D first
          → IsLaterValueWith S D values first row p → HasNoDegreeAbove D p
      later_within end_of-Factor first p h is = subst (HasNoDegreeAbove D) (sym is) h
      later_within (more_of-Factor true of rest) first p h (v, next, is, step, later) =
          later_within rest next p step.2.within later
      later_within (more_of-Factor false of rest) first p h (v, next, is, step, later) =
          later_within rest next p (subst (HasNoDegreeAbove D) (sym step) (truncated-again (ring S) (degree S) D _))
          later

  module _ (d D : ℕ) (le : d ≤ D) where
    lower_once : (p q : Poly S) → p ≡ truncated (ring S) (degree S) D q → truncated (ring S) (degree S) d p
        ≡ truncated (ring S) (degree S) d q
    lower_once p q e = ap (truncated (ring S) (degree S) d) e ∙ truncated-lower (ring S) (degree S) d D q le

    mutual
      -- truncated, a value is the value at the lower degree
      pub value-truncated : (e : Expr) (p : Poly S) → IsValueWith S D values e p
          → IsValueWith S d values e (truncated (ring S) (degree S) d p)
      value-truncated (Number c) p is = lower_once p _ is
      value-truncated (Name i) p is = lower_once p _ is
      value-truncated MainVariable p is = lower_once p _ is
      value-truncated (Sum' shape summands) p is = sum-truncated summands p is
      value-truncated (Product' shape factors) p is = product-truncated factors p is
      value-truncated (Power' shape (more_of-Expr base end_of-Expr) exponent) p (v, is, at) = (
        truncated (ring S) (degree S) d v,
        value-truncated base v is,
        lower_once p _ at ∙ sym (power-truncated (ring S) d exponent v),
      )

      sum-truncated : {m : _} (row : Row_of-Summand m) (p : Poly S) → IsSumValueWith S D values row p
          → IsSumValueWith S d values row (truncated (ring S) (degree S) d p)
      sum-truncated end_of-Summand p is = ap (truncated (ring S) (degree S) d) is
          ∙ truncated-nothing (ring S) (degree S) d
      sum-truncated (more_of-Summand minus of rest) p (v, others, is, are, at) = (
        truncated (ring S) (degree S) d v,
        truncated (ring S) (degree S) d others,
        value-truncated of v is,
        sum-truncated rest others are,
        ap (truncated (ring S) (degree S) d) at ∙ truncated-sum (ring S) (degree S) d _ _
            ∙ ap (λ t. sum (ring S) t (truncated (ring S) (degree S) d others)) (signed-truncated (ring S) minus d v),
      )

      product-truncated : {m : _} (row : Row_of-Factor m) (p : Poly S) → IsProductValueWith S D values row p
          → IsProductValueWith S d values row (truncated (ring S) (degree S) d p)
      product-truncated end_of-Factor p is = is
      product-truncated (more_of-Factor divide of rest) p (v, is, later) =
          (truncated (ring S) (degree S) d v, value-truncated of v is, later-truncated rest v p later)

      later-truncated : {m : _} (row : Row_of-Factor m) (first p : Poly S) → IsLaterValueWith S D values first row p
          → IsLaterValueWith S d values (truncated (ring S) (degree S) d first) row (truncated (ring S) (degree S) d p)
      later-truncated end_of-Factor first p is = ap (truncated (ring S) (degree S) d) is
      later-truncated (more_of-Factor true of rest) first p (v, next, is, step, later) = (
        truncated (ring S) (degree S) d v,
        truncated (ring S) (degree S) d next,
        value-truncated of v is,
        (
          step.0,
          subst (IsUnit S.modulus) (sym (coefficient-truncated_constant (ring S) d v)) step.1,
          quotient_cut (ring S) d _ v _ (quotient-truncated (ring S) d D first v next le step.2),
        ),
        later-truncated rest next p later,
      )
      later-truncated (more_of-Factor false of rest) first p (v, next, is, step, later) = (
        truncated (ring S) (degree S) d v,
        truncated (ring S) (degree S) d next,
        value-truncated of v is,
        lower_once next _ step ∙ truncated-product (ring S) (degree S) (ring S).degree_adds d first v,
        later-truncated rest next p later,
      )

  module _ (D : ℕ) where
    -- of a tree without Y no value has Y
    abbrev pub IsFlat : Expr → Type 0
    IsFlat d = has_y d ≡ false → (v : Poly S) → IsValueWith S D values d v → HasNoPowerAbove 0 v

    -- one quotient at most
    same_quotient : (a b q r : Poly S) → HasNoPowerAbove 0 b → IsUnit S.modulus (constant_term b) → IsQuotient D a b q
        → IsQuotient D a b r → q ≡ r
    same_quotient a b q r flat unit is is' = only q is ∙ sym (only r is')
      where
        within : HasNoDegreeAbove D a
        within = ap (truncated (ring S) (degree S) D) (sym is.multiplies_back)
            ∙ truncated-again (ring S) (degree S) D _ ∙ is.multiplies_back

        only : (s : Poly S) → IsQuotient D a b s → s ≡ (one_quotient (ring S) b flat unit D a within).one_value
        only s h = (one_quotient (ring S) b flat unit D a within).only s h

    mutual
      -- one value at most, where no value of a divisor has Y
      pub same_by_divisors : (e : Expr) (p q : Poly S) → AllOf IsFlat (divisors e) → IsValueWith S D values e p
          → IsValueWith S D values e q → p ≡ q
      same_by_divisors (Number c) p q h is is' = is ∙ sym is'
      same_by_divisors (Name i) p q h is is' = is ∙ sym is'
      same_by_divisors MainVariable p q h is is' = is ∙ sym is'
      same_by_divisors (Sum' shape summands) p q h is is' = same_sum summands p q h is is'
      same_by_divisors (Product' shape factors) p q h is is' = same_product factors p q h is is'
      same_by_divisors (Power' shape (more_of-Expr base end_of-Expr) exponent) p q h (v, is, at) (w, is', at') = at
          ∙ ap (λ v. truncated (ring S) (degree S) D (power (ring S) v exponent)) (same_by_divisors base v w h is is')
          ∙ sym at'

      same_sum : {m : _} (row : Row_of-Summand m) (p q : Poly S) → AllOf IsFlat (summand_divisors row)
          → IsSumValueWith S D values row p → IsSumValueWith S D values row q → p ≡ q
      same_sum end_of-Summand p q h is is' = is ∙ sym is'
      same_sum (more_of-Summand minus of rest) p q h (v, others, is, are, at) (v', others', is', are', at') = at
          ∙ (λ i. let w = same_by_divisors of v v' (first_ones IsFlat (divisors of) _ h) is is' i in
          sum (ring S) (cond minus (negative (ring S) w) w) (same_sum rest others others'
          (last_ones IsFlat (divisors of) _ h) are are' i)) ∙ sym at'

      same_product : {m : _} (row : Row_of-Factor m) (p q : Poly S) → AllOf IsFlat (factor_divisors row)
          → IsProductValueWith S D values row p → IsProductValueWith S D values row q → p ≡ q
      same_product end_of-Factor p q h is is' = absurd is
      same_product (more_of-Factor true of rest) p q h (v, is, later) (v', is', later') =
          same_later rest v v' p q (last_ones IsFlat (divisors of) _ h.1)
          (same_by_divisors of v v' (first_ones IsFlat (divisors of) _ h.1) is is') later later'
      same_product (more_of-Factor false of rest) p q h (v, is, later) (v', is', later') =
          same_later rest v v' p q (last_ones IsFlat (divisors of) _ h)
          (same_by_divisors of v v' (first_ones IsFlat (divisors of) _ h) is is') later later'

      same_later : {m : _} (row : Row_of-Factor m) (f g p q : Poly S) → AllOf IsFlat (factor_divisors row) → f ≡ g
          → IsLaterValueWith S D values f row p → IsLaterValueWith S D values g row q → p ≡ q
      same_later end_of-Factor f g p q h e is is' = is ∙ e ∙ sym is'
      same_later (more_of-Factor true of rest) f g p q h e (v, next, is, step, later)
          (v', next', is', step', later') = same_later rest next next' p q (last_ones IsFlat (divisors of) _ h.1)
          (same_quotient f v next next' (h.0 step.0 v is) step.1 step.2 (subst (λ b. IsQuotient D f b next')
          (sym (same_by_divisors of v v' (first_ones IsFlat (divisors of) _ h.1) is is'))
          (subst (λ a. IsQuotient D a v' next') (sym e) step'.2))) later later'
      same_later (more_of-Factor false of rest) f g p q h e (v, next, is, step, later)
          (v', next', is', step', later') = same_later rest next next' p q (last_ones IsFlat (divisors of) _ h)
          (step ∙ (λ i. truncated (ring S) (degree S) D (product (ring S) (e i)
          (same_by_divisors of v v' (first_ones IsFlat (divisors of) _ h) is is' i))) ∙ sym step') later later'

  -- where no name's value has Y
  module _ (flat : (i : ℕ) → HasNoPowerAbove 0 (values i)) (D : ℕ) where
    mutual
      -- the value of a tree without Y has none
      pub value_flat : (e : Expr) (p : Poly S) → has_y e ≡ false → IsValueWith S D values e p → HasNoPowerAbove 0 p
      value_flat (Number c) p h is = subst (HasNoPowerAbove 0) (sym is)
          (power_bound-truncated (ring S) D 0 _ (truncated-monomial (ring S) (ring S).y_degree 0 c _ (omega arith)))
      value_flat (Name i) p h is = subst (HasNoPowerAbove 0) (sym is)
          (power_bound-truncated (ring S) D 0 (values i) (flat i))
      value_flat MainVariable p h is = absurd (cc)
      value_flat (Sum' shape summands) p h is = sum_flat summands p h is
      value_flat (Product' shape factors) p h is = product_flat factors p h is
      value_flat (Power' shape (more_of-Expr base end_of-Expr) exponent) p h (v, is, at) =
          subst (HasNoPowerAbove 0) (sym at) (power_bound-truncated (ring S) D 0 _
          (power_bound-more (ring S) (exponent * 0) 0 _ (omega arith)
          (power_bound-power (ring S) 0 exponent v (value_flat base v h is))))

      sum_flat : {m : _} (row : Row_of-Summand m) (p : Poly S) → summands_have_y row ≡ false
          → IsSumValueWith S D values row p → HasNoPowerAbove 0 p
      sum_flat end_of-Summand p h is =
          subst (HasNoPowerAbove 0) (sym is) (truncated-nothing (ring S) (ring S).y_degree 0)
      sum_flat (more_of-Summand minus of rest) p h (v, others, is, are, at) =
          subst (HasNoPowerAbove 0) (sym at) (power_bound-sum (ring S) 0 _ _
          (power_bound-signed (ring S) minus 0 v (value_flat of v (left_false _ _ h) is))
          (sum_flat rest others (right_false _ _ h) are))

      product_flat : {m : _} (row : Row_of-Factor m) (p : Poly S) → factors_have_y row ≡ false
          → IsProductValueWith S D values row p → HasNoPowerAbove 0 p
      product_flat end_of-Factor p h is = absurd is
      product_flat (more_of-Factor divide of rest) p h (v, is, later) =
          later_flat rest v p (right_false _ _ h) (value_flat of v (left_false _ _ h) is) later

      later_flat : {m : _} (row : Row_of-Factor m) (first p : Poly S) → factors_have_y row ≡ false
          → HasNoPowerAbove 0 first → IsLaterValueWith S D values first row p → HasNoPowerAbove 0 p
      later_flat end_of-Factor first p h flat is = subst (HasNoPowerAbove 0) (sym is) flat
      later_flat (more_of-Factor true of rest) first p h flat (v, next, is, step, later) =
          later_flat rest next p (right_false _ _ h) (power_bound-quotient (ring S) D 0 first v next
          (value_flat of v (left_false _ _ h) is) step.1 flat step.2) later
      later_flat (more_of-Factor false of rest) first p h flat (v, next, is, step, later) =
          later_flat rest next p (right_false _ _ h) (subst (HasNoPowerAbove 0) (sym step)
          (power_bound-truncated (ring S) D 0 _ (power_bound-more (ring S) (0 + 0) 0 _ (omega arith)
          (power_bound-product (ring S) 0 0 first v flat (value_flat of v (left_false _ _ h) is))))) later

    all_flat : (ds : List Expr) → AllOf (IsFlat D) ds
    all_flat ds = by_places (IsFlat D) ds (λ i d at h v is. value_flat d v h is)

    -- one value at most
    pub same_value : (e : Expr) (p q : Poly S) → IsValueWith S D values e p → IsValueWith S D values e q → p ≡ q
    same_value e p q is is' = same_by_divisors D e p q (all_flat (divisors e)) is is'
