-- A well-formed tree that divides by units has a value up to each degree.
use Rattle.std.proofs.Common.{◌≡◌, ℕ, suc, ◌-◌, true, false, cond, List, refl, sym, ◌∙◌, ap}
use Rattle.std.proofs.Common.{subst, arith}
use Rattle.std.specs.Prelude.{slice_get}
use Rattle.ps_model.specs.declared.expr.Expr.{Expr, Number, Name, MainVariable, Sum', Product', Power'}
use Rattle.ps_model.specs.declared.expr.Expr.{end_of-Expr, more_of-Expr}
use Rattle.ps_model.specs.declared.expr.Expr.{Row_of-Summand, end_of-Summand, more_of-Summand}
use Rattle.ps_model.specs.declared.expr.Expr.{Row_of-Factor, end_of-Factor, more_of-Factor}
use Rattle.ps_model.specs.Ring.{Ring}
use Rattle.ps_model.specs.Keys.{y_key}
use Rattle.ps_model.specs.Polynomial.{coefficient, monomial, sum, negative, product, power, zero as nought}
use Rattle.ps_model.specs.Truncation.{truncated}
use Rattle.ps_model.specs.Bounds.{HasNoPowerAbove, HasNoDegreeAbove, IsUnit, ExactlyOne}
use Rattle.ps_model.specs.Prepared.{IsQuotient}
use Rattle.ps_model.specs.SeriesRing.{SeriesRing, ring, Poly}
use Rattle.ps_model.specs.Tree.{has_y, divisors, summand_divisors, factor_divisors, IsValidTree, AreFactors}
use Rattle.ps_model.specs.Tree.{AreValidSummands, AreValidFactors}
use Rattle.ps_model.specs.Value.{IsValueWith, IsSumValueWith, IsProductValueWith, IsLaterValueWith}
use Rattle.ps_model.specs.Divisions.{DividesByUnits}
use Rattle.ps_model.proofs.Divisors.{AllOf, map_ones, first_ones, last_ones, all_ones, at_place, by_places}
use Rattle.ps_model.proofs.Origin.{coefficient-truncated_constant}
use Rattle.ps_model.proofs.Quotients.{one_quotient}
use Rattle.ps_model.proofs.Factors.{truncated-again}
use Rattle.ps_model.proofs.TreeValues.{IsFlat, value_flat, value_within, same_by_divisors, same_value, value-truncated}
use Rattle.ps_model.proofs.TreeLeads.{first_kept}

module _ (S : SeriesRing) (values : ℕ → Poly S) where
  abbrev R : Ring
  R = ring S

  -- a divisor without Y, whose value at the origin is a unit
  record DividesWell (d : Expr) : Type 0 where
    without_y : has_y d ≡ false
    no_power : (D : ℕ) (v : Poly S) → IsValueWith S D values d v → HasNoPowerAbove 0 v
    unit : (v : Poly S) → IsValueWith S 0 values d v → IsUnit S.modulus (coefficient R v R.origin)

  abbrev AllDivideWell : List Expr → Type 0
  AllDivideWell = AllOf DividesWell

  all_divide_well : (e : Expr) → DividesByUnits S values e → AllDivideWell (divisors e)
  all_divide_well e h = by_places DividesWell (divisors e) (λ i d at. record {
    without_y = h.without_y (suc i) d (omega arith, ap (slice_get (divisors e)) (back i) ∙ at);
    no_power = λ D v is. h.no_power (suc i) D d v (omega arith, ap (slice_get (divisors e)) (back i) ∙ at) is;
    unit = λ v is. h.units (suc i) d v (omega arith, ap (slice_get (divisors e)) (back i) ∙ at) is;
  })
    where
      back : (k : ℕ) → suc k - 1 ≡ k
      back k = omega arith

  module _ (names D : ℕ) where
    -- the quotient of the product so far by the next factor
    divided : (of : Expr) (first v : Poly S) → DividesWell of → HasNoDegreeAbove D first → IsValueWith S D values of v
        → IsUnit S.modulus (coefficient R v R.origin) × ((next : Poly S) × IsQuotient D first v next)
    divided of first v well within is = (unit, (quotient.one_value, quotient.meets))
      where
        unit : IsUnit S.modulus (coefficient R v R.origin)
        unit = subst (IsUnit S.modulus) (coefficient-truncated_constant R 0 v)
            (well.unit (truncated R R.degree 0 v) (value-truncated S values 0 D (omega arith) of v is))

        quotient : ExactlyOne (IsQuotient D first v)
        quotient = one_quotient R v (well.no_power D v is) unit D first within

    mutual
      value_of : (e : Expr) → IsValidTree names e → AllDivideWell (divisors e)
          → (p : Poly S) × IsValueWith S D values e p
      value_of (Number c) h well = (truncated R R.degree D (monomial R c (y_key S.variables 0)), refl)
      value_of (Name i) h well = (truncated R R.degree D (values i), refl)
      value_of MainVariable h well = (truncated R R.degree D (monomial R 1 (y_key S.variables 1)), refl)
      value_of (Sum' shape summands) h well = sum_of summands h.1 well
      value_of (Product' shape factors) h well = product_value_of factors h.0 h.1 well
      value_of (Power' shape (more_of-Expr base end_of-Expr) exponent) h well =
          let v = value_of base h.0 well in
          (truncated R R.degree D (power R v.0 exponent), (v.0, v.1, refl))

      sum_of : {m : _} (row : Row_of-Summand m) → AreValidSummands names row → AllDivideWell (summand_divisors row)
          → (p : Poly S) × IsSumValueWith S D values row p
      sum_of end_of-Summand h well = (nought R, refl)
      sum_of (more_of-Summand minus of rest) h well =
          let v = value_of of h.0 (first_ones DividesWell (divisors of) _ well) in
          let others = sum_of rest h.1 (last_ones DividesWell (divisors of) _ well) in
          (sum R (cond minus (negative R v.0) v.0) others.0, (v.0, others.0, v.1, others.1, refl))

      product_value_of : {m : _} (row : Row_of-Factor m) → AreFactors row → AreValidFactors names row
          → AllDivideWell (factor_divisors row) → (p : Poly S) × IsProductValueWith S D values row p
      product_value_of end_of-Factor ok h well = absurd ok
      product_value_of (more_of-Factor true of rest) ok h well = absurd (first_kept of rest ok)
      product_value_of (more_of-Factor false of rest) ok h well =
          let v = value_of of h.0 (first_ones DividesWell (divisors of) _ well) in
          let later = later_of rest v.0 h.1 (last_ones DividesWell (divisors of) _ well)
          (value_within S values D of v.0 v.1) in
          (later.0, (v.0, v.1, later.1))

      later_of : {m : _} (row : Row_of-Factor m) (first : Poly S) → AreValidFactors names row
          → AllDivideWell (factor_divisors row) → HasNoDegreeAbove D first
          → (p : Poly S) × IsLaterValueWith S D values first row p
      later_of end_of-Factor first h well within = (first, refl)
      later_of (more_of-Factor true of rest) first h well within =
          let v = value_of of h.0 (first_ones DividesWell (divisors of) _ well.1) in
          let step = divided of first v.0 well.0 within v.1 in
          let later = later_of rest step.1.0 h.1 (last_ones DividesWell (divisors of) _ well.1) step.1.1.within in
          (later.0, (v.0, step.1.0, v.1, (well.0.without_y, step.0, step.1.1), later.1))
      later_of (more_of-Factor false of rest) first h well within =
          let v = value_of of h.0 (first_ones DividesWell (divisors of) _ well) in
          let later = later_of rest (truncated R R.degree D (product R first v.0)) h.1
          (last_ones DividesWell (divisors of) _ well) (truncated-again R R.degree D _) in
          (later.0, (v.0, truncated R R.degree D (product R first v.0), v.1, refl, later.1))

    -- exactly one value
    pub tree_value : (e : Expr) → IsValidTree names e → DividesByUnits S values e
        → ExactlyOne (IsValueWith S D values e)
    tree_value e h divides =
        let well = all_divide_well e divides in
        let flat = map_ones DividesWell (IsFlat S values D) (λ d one none. one.no_power D) (divisors e) well in
        let v = value_of e h well in
        record { one_value = v.0; meets = v.1; only = λ q is. same_by_divisors S values D e q v.0 flat is v.1 }

  -- where no name's value has Y
  module _ (flat : (i : ℕ) → HasNoPowerAbove 0 (values i)) (names D : ℕ) where
    -- of a divisor with a value that is a unit, each value at the origin is one
    well_by_value : (of : Expr) (v : Poly S) → has_y of ≡ false → IsValueWith S D values of v
        → IsUnit S.modulus (coefficient R v R.origin) → DividesWell of
    well_by_value of v none is unit = record {
      without_y = none;
      no_power = λ E w is'. value_flat S values flat E of w none is';
      unit = λ w is'. subst (λ n. IsUnit S.modulus n) (sym (coefficient-truncated_constant R 0 v)
          ∙ ap (λ q. coefficient R q R.origin) (same_value S values flat 0 of (truncated R R.degree 0 v) w
          (value-truncated S values 0 D (omega arith) of v is) is')) unit;
    }

    mutual
      well_divided : (e : Expr) (p : Poly S) → IsValidTree names e → IsValueWith S D values e p
          → AllDivideWell (divisors e)
      well_divided (Number c) p h is = tt
      well_divided (Name i) p h is = tt
      well_divided MainVariable p h is = tt
      well_divided (Sum' shape summands) p h is = well_summed summands p h.1 is
      well_divided (Product' shape factors) p h is = well_multiplied factors p h.0 h.1 is
      well_divided (Power' shape (more_of-Expr base end_of-Expr) exponent) p h (v, is, at) = well_divided base v h.0 is

      well_summed : {m : _} (row : Row_of-Summand m) (p : Poly S) → AreValidSummands names row
          → IsSumValueWith S D values row p
          → AllDivideWell (summand_divisors row)
      well_summed end_of-Summand p h is = tt
      well_summed (more_of-Summand minus of rest) p h (v, others, is, are, at) =
          all_ones DividesWell (divisors of) _ (well_divided of v h.0 is) (well_summed rest others h.1 are)

      well_multiplied : {m : _} (row : Row_of-Factor m) (p : Poly S) → AreFactors row → AreValidFactors names row
          → IsProductValueWith S D values row p → AllDivideWell (factor_divisors row)
      well_multiplied end_of-Factor p ok h is = absurd is
      well_multiplied (more_of-Factor true of rest) p ok h is = absurd (first_kept of rest ok)
      well_multiplied (more_of-Factor false of rest) p ok h (v, is, later) =
          all_ones DividesWell (divisors of) _ (well_divided of v h.0 is) (well_later rest v p h.1 later)

      well_later : {m : _} (row : Row_of-Factor m) (first p : Poly S) → AreValidFactors names row
          → IsLaterValueWith S D values first row p → AllDivideWell (factor_divisors row)
      well_later end_of-Factor first p h is = tt
      well_later (more_of-Factor true of rest) first p h (v, next, is, step, later) = (
        well_by_value of v step.0 is step.1,
        all_ones DividesWell (divisors of) _ (well_divided of v h.0 is) (well_later rest next p h.1 later),
      )
      well_later (more_of-Factor false of rest) first p h (v, next, is, step, later) =
          all_ones DividesWell (divisors of) _ (well_divided of v h.0 is) (well_later rest next p h.1 later)

    -- a tree that has a value divides by units
    pub value_divides : (e : Expr) (p : Poly S) → IsValidTree names e → IsValueWith S D values e p
        → DividesByUnits S values e
    value_divides e p h is = record {
      without_y = λ k d divisor. (at_place DividesWell (divisors e) (k - 1) d
          (well_divided e p h is) divisor.1).without_y;
      no_power = λ k E d v divisor at. (at_place DividesWell (divisors e) (k - 1) d
          (well_divided e p h is) divisor.1).no_power E v at;
      units = λ k d v divisor at. (at_place DividesWell (divisors e) (k - 1) d
          (well_divided e p h is) divisor.1).unit v at;
    }
