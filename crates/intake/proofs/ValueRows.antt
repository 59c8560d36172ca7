-- Values, degrees and divisors of sums and products, read at lists of summands and factors.
--     IsStep S D first f next      next is first times the value of f, or divided by it
--     IsLaterOf S D first fs p      p is what the factors make of first, one after another
--     IsGoodDivisor S d      d has no Y, and its value at the origin is a unit
use Rattle.std.proofs.Common.{◌≡◌, ℕ, zero, suc, ◌+◌, ◌-◌, ◌*◌, ◌≤◌, max, Bool, true, false, List, [], ◌∷◌, ◌++◌, Some}
use Rattle.std.proofs.Common.{refl, sym, ◌∙◌, ap, subst, arith, ◌||◌}
use Rattle.std.specs.Prelude.{if◌then◌else◌, MatchBool, slice_get, not, IsTrue}
use Rattle.std.specs.List.{All}
use Rattle.std.proofs.lemmas.List.Elements.{All-nil, All-cons}
use Rattle.ps_model.specs.declared.expr.Expr.{Expr, Number, Name, MainVariable, Sum', Product', Power', Sum, Product}
use Rattle.ps_model.specs.declared.expr.Expr.{Power}
use Rattle.ps_model.specs.declared.expr.Expr.{end_of-Expr, more_of-Expr}
use Rattle.ps_model.specs.declared.expr.Expr.{Row_of-Summand, end_of-Summand, more_of-Summand}
use Rattle.ps_model.specs.declared.expr.Expr.{Row_of-Factor, end_of-Factor, more_of-Factor}
use Rattle.ps_model.specs.declared.expr.Summand.{Summand}
use Rattle.ps_model.specs.declared.expr.Factor.{Factor}
use Rattle.ps_model.specs.declared.expr.Expr.TheBlock.{hidden-the_row-Summand-0, shape-the_row-Summand-0}
use Rattle.ps_model.specs.declared.expr.Expr.TheBlock.{hidden-the_row-Factor-1, shape-the_row-Factor-1}
use Rattle.ps_model.specs.declared.expr.Expr.TheBlock.{hidden-the_row-Expr-2}
use denote.Hole.Carrier.{hidden}
use Rattle.ps_model.specs.Bounds.{HasNoPowerAbove, IsUnit}
use Rattle.ps_model.specs.Divisions.{IsDivisor, DividesByUnits}
use Rattle.ps_model.specs.Notation.{zero as nought, constant_term, sum, negative, product, power, truncated}
use Rattle.ps_model.specs.Prepared.{IsQuotient}
use Rattle.ps_model.specs.SeriesRing.{SeriesRing, Poly}
use Rattle.ps_model.specs.Tree.{formal_degree, greatest_degree, product_degree, has_y, summands_have_y}
use Rattle.ps_model.specs.Tree.{factors_have_y, divisors, IsValidTree, AreValidSummands, AreValidFactors}
use Rattle.ps_model.specs.Value.{variable, IsValue, IsLaterValue}
use Rattle.ps_model.proofs.Divisors.{AllOf, first_ones, last_ones, at_place, by_places}
use Rattle.intake.specs.Passes.{divisors_of}
use Rattle.intake.proofs.TreeRows.{divisors-Sum_more, divisors-Product_more, divisors-Power}

not_true : (b : Bool) → IsTrue (not b) → b ≡ false
not_true true h = absurd (cc)
not_true false h = refl

-- a tree without Y has degree 0
left_false : (a b : Bool) → (a || b) ≡ false → a ≡ false
left_false true b e = absurd (cc)
left_false false b e = refl

right_false : (a b : Bool) → (a || b) ≡ false → b ≡ false
right_false true b e = absurd (cc)
right_false false b e = e

no_greatest : (a b : ℕ) → a ≡ 0 → b ≡ 0 → max a b ≡ 0
no_greatest a b e f = omega arith

no_times : (e d : ℕ) → d ≡ 0 → e * d ≡ 0
no_times e d is = ap (λ n. e * n) is ∙ none e
  where
    none : (e : ℕ) → e * 0 ≡ 0
    none e = omega arith

added_degree : (divide : Bool) (a b : ℕ) → a ≡ 0 → b ≡ 0 → (if divide then 0 else a) + b ≡ 0
added_degree true a b e f = omega arith
added_degree false a b e f = omega arith

mutual
  pub flat_degree : (e : Expr) → has_y e ≡ false → formal_degree e ≡ 0
  flat_degree (Number c) h = refl
  flat_degree (Name i) h = refl
  flat_degree MainVariable h = absurd (cc)
  flat_degree (Sum' shape summands) h = flat_greatest summands h
  flat_degree (Product' shape factors) h = flat_product factors h
  flat_degree (Power' shape (more_of-Expr base end_of-Expr) exponent) h =
      no_times exponent (formal_degree base) (flat_degree base h)

  flat_greatest : {m : _} (row : Row_of-Summand m) → summands_have_y row ≡ false → greatest_degree row ≡ 0
  flat_greatest end_of-Summand h = refl
  flat_greatest (more_of-Summand minus of rest) h = no_greatest (formal_degree of) (greatest_degree rest)
      (flat_degree of (left_false _ _ h)) (flat_greatest rest (right_false _ _ h))

  flat_product : {m : _} (row : Row_of-Factor m) → factors_have_y row ≡ false → product_degree row ≡ 0
  flat_product end_of-Factor h = refl
  flat_product (more_of-Factor divide of rest) h = added_degree divide (formal_degree of) (product_degree rest)
      (flat_degree of (left_false _ _ h)) (flat_product rest (right_false _ _ h))

-- well-formed trees
module _ (names : ℕ) where
  abbrev pub IsValidSummand : Summand → Type 0
  IsValidSummand s = IsValidTree names s.of

  abbrev pub IsValidFactor : Factor → Type 0
  IsValidFactor f = IsValidTree names f.of

  each_summand : (ss : List Summand) → AreValidSummands names (hidden-the_row-Summand-0 ss) → All IsValidSummand ss
  unfolding hidden-the_row-Summand-0 shape-the_row-Summand-0 hidden
  each_summand [] h = All-nil IsValidSummand
  each_summand (s ∷ ss) h = All-cons IsValidSummand s ss h.0 (each_summand ss h.1)

  each_factor : (fs : List Factor) → AreValidFactors names (hidden-the_row-Factor-1 fs) → All IsValidFactor fs
  unfolding hidden-the_row-Factor-1 shape-the_row-Factor-1 hidden
  each_factor [] h = All-nil IsValidFactor
  each_factor (f ∷ fs) h = All-cons IsValidFactor f fs h.0 (each_factor fs h.1)

  pub valid_summands : (ss : List Summand) → IsValidTree names (Sum ss) → All IsValidSummand ss
  valid_summands ss h = each_summand ss h.1

  pub valid_factors : (fs : List Factor) → IsValidTree names (Product fs) → All IsValidFactor fs
  valid_factors fs h = each_factor fs h.1

  pub no_factors : IsValidTree names (Product []) → ⊥
  unfolding hidden-the_row-Factor-1 shape-the_row-Factor-1 hidden
  no_factors h = h.0

  -- the first factor doesn't divide
  pub first_factor : (f : Factor) (fs : List Factor) → IsValidTree names (Product (f ∷ fs)) → f.divide ≡ false
  unfolding hidden-the_row-Factor-1 shape-the_row-Factor-1 hidden
  first_factor f [] h = absurd h.0
  first_factor f (g ∷ fs) h = not_true f.divide h.0

  pub valid_power : (b : Expr) (e : ℕ) → IsValidTree names (Power b e) → IsValidTree names b × (e ≤ 255)
  unfolding hidden-the_row-Expr-2 hidden
  valid_power b e h = h

module _ (S : SeriesRing) where
  -- good divisors
  pub record IsGoodDivisor (d : Expr) : Type 0 where
    pub without_y : has_y d ≡ false
    pub no_power : (D : ℕ) (v : Poly S) → IsValue S D d v → HasNoPowerAbove 0 v
    pub unit : (v : Poly S) → IsValue S 0 d v → IsUnit S.modulus (constant_term v)

  abbrev pub Divides : Expr → Type 0
  Divides e = DividesByUnits S (variable S) e

  abbrev pub AreGood : List Expr → Type 0
  AreGood = AllOf IsGoodDivisor

  good_divisors : (e : Expr) → Divides e → AreGood (divisors e)
  good_divisors e h = by_places IsGoodDivisor (divisors e) (λ i d at. record {
    without_y = h.without_y (suc i) d (omega arith, ap (slice_get (divisors e)) (back i) ∙ at);
    no_power = λ D v is. h.no_power (suc i) D d v (omega arith, ap (slice_get (divisors e)) (back i) ∙ at) is;
    unit = λ v is. h.units (suc i) d v (omega arith, ap (slice_get (divisors e)) (back i) ∙ at) is;
  })
    where
      back : (k : ℕ) → suc k - 1 ≡ k
      back k = omega arith

  divides_by_good : (e : Expr) → AreGood (divisors e) → Divides e
  divides_by_good e h = record {
    without_y = λ k d divisor. (at_place IsGoodDivisor (divisors e) (k - 1) d h divisor.1).without_y;
    no_power = λ k D d v divisor at. (at_place IsGoodDivisor (divisors e) (k - 1) d h divisor.1).no_power D v at;
    units = λ k d v divisor at. (at_place IsGoodDivisor (divisors e) (k - 1) d h divisor.1).unit v at;
  }

  abbrev pub DividesIn : Summand → Type 0
  DividesIn s = Divides s.of

  abbrev pub DividesBy : Factor → Type 0
  DividesBy f = Divides f.of × (f.divide ≡ true → IsGoodDivisor f.of)

  each_sum : (ss : List Summand) → AreGood (divisors (Sum ss)) → All DividesIn ss
  each_sum [] h = All-nil DividesIn
  each_sum (s ∷ ss) h = All-cons DividesIn s ss
      (divides_by_good s.of (first_ones IsGoodDivisor (divisors s.of) (divisors (Sum ss))
      (subst AreGood (divisors-Sum_more s ss) h)))
      (each_sum ss (last_ones IsGoodDivisor (divisors s.of) (divisors (Sum ss))
      (subst AreGood (divisors-Sum_more s ss) h)))

  by_factor : (divide : Bool) (of : Expr) → AreGood (if divide then of ∷ divisors of else divisors of)
      → Divides of × (divide ≡ true → IsGoodDivisor of)
  by_factor true of h = (divides_by_good of h.1, λ e. h.0)
  by_factor false of h = (divides_by_good of h, λ e. absurd (cc))

  each_product : (fs : List Factor) → AreGood (divisors (Product fs)) → All DividesBy fs
  each_product [] h = All-nil DividesBy
  each_product (f ∷ fs) h = All-cons DividesBy f fs
      (by_factor f.divide f.of (first_ones IsGoodDivisor (divisors_of f) (divisors (Product fs))
      (subst AreGood (divisors-Product_more f fs) h)))
      (each_product fs (last_ones IsGoodDivisor (divisors_of f) (divisors (Product fs))
      (subst AreGood (divisors-Product_more f fs) h)))

  pub sum_divides : (ss : List Summand) → Divides (Sum ss) → All DividesIn ss
  sum_divides ss h = each_sum ss (good_divisors (Sum ss) h)

  pub product_divides : (fs : List Factor) → Divides (Product fs) → All DividesBy fs
  product_divides fs h = each_product fs (good_divisors (Product fs) h)

  pub power_divides : (b : Expr) (e : ℕ) → Divides (Power b e) → Divides b
  power_divides b e h = divides_by_good b (subst AreGood (divisors-Power b e) (good_divisors (Power b e) h))

  module _ (D : ℕ) where
    -- values
    pub sum_value-none : (p : Poly S) → IsValue S D (Sum []) p → p ≡ nought
    unfolding hidden-the_row-Summand-0 shape-the_row-Summand-0 hidden
    sum_value-none p is = is

    pub sum_value-more : (s : Summand) (ss : List Summand) (p : Poly S) → IsValue S D (Sum (s ∷ ss)) p
        → (v : Poly S) × (others : Poly S) × IsValue S D s.of v × IsValue S D (Sum ss) others
        × (p ≡ sum (if s.minus then negative v else v) others)
    unfolding hidden-the_row-Summand-0 shape-the_row-Summand-0 hidden
    sum_value-more s ss p is = is

    pub record IsStep (first : Poly S) (f : Factor) (next : Poly S) : Type 0 where
      pub value : Poly S
      pub is_value : IsValue S D f.of value
      pub step : MatchBool f.divide
          ((has_y f.of ≡ false) × IsUnit S.modulus (constant_term value) × IsQuotient D first value next)
          (next ≡ truncated D (product first value))

    abbrev pub IsLaterOf : Poly S → List Factor → Poly S → Type 0
    IsLaterOf first [] p = p ≡ first
    IsLaterOf first (f ∷ fs) p = (next : Poly S) × IsStep first f next × IsLaterOf next fs p

    to_later : (first : Poly S) (fs : List Factor) (p : Poly S)
        → IsLaterValue S D first (hidden-the_row-Factor-1 fs) p → IsLaterOf first fs p
    unfolding hidden-the_row-Factor-1 shape-the_row-Factor-1 hidden
    to_later first [] p is = is
    to_later first (f ∷ fs) p (v, next, is, step, later) = (
      next,
      record { value = v; is_value = is; step = step },
      to_later next fs p later,
    )

    from_later : (first : Poly S) (fs : List Factor) (p : Poly S) → IsLaterOf first fs p
        → IsLaterValue S D first (hidden-the_row-Factor-1 fs) p
    unfolding hidden-the_row-Factor-1 shape-the_row-Factor-1 hidden
    from_later first [] p is = is
    from_later first (f ∷ fs) p (next, step, later) = (
      step.value,
      next,
      step.is_value,
      step.step,
      from_later next fs p later,
    )

    product_value : (f : Factor) (fs : List Factor) (p : Poly S) → IsValue S D (Product (f ∷ fs)) p
        → (v : Poly S) × IsValue S D f.of v × IsLaterOf v fs p
    unfolding hidden-the_row-Factor-1 shape-the_row-Factor-1 hidden
    product_value f fs p (v, is, later) = (v, is, to_later v fs p later)

    of_product : (f : Factor) (fs : List Factor) (v p : Poly S) → IsValue S D f.of v → IsLaterOf v fs p
        → IsValue S D (Product (f ∷ fs)) p
    unfolding hidden-the_row-Factor-1 shape-the_row-Factor-1 hidden
    of_product f fs v p is later = (v, is, from_later v fs p later)

    last_step : (first : Poly S) (fs : List Factor) (g : Factor) (p : Poly S) → IsLaterOf first (fs ++ g ∷ []) p
        → (q : Poly S) × IsLaterOf first fs q × IsStep q g p
    last_step first [] g p (next, step, at) = (first, refl, subst (IsStep first g) (sym at) step)
    last_step first (f ∷ fs) g p (next, step, later) =
        let last = last_step next fs g p later in
        (last.0, (next, step, last.1), last.2)

    pub product_value-one : (f : Factor) (p : Poly S) → IsValue S D (Product (f ∷ [])) p → IsValue S D f.of p
    product_value-one f p is =
        let whole = product_value f [] p is in
        subst (IsValue S D f.of) (sym whole.2) whole.1

    -- the value of one more factor
    pub product_value-last : (f : Factor) (fs : List Factor) (g : Factor) (p : Poly S)
        → IsValue S D (Product ((f ∷ fs) ++ g ∷ [])) p
        → (q : Poly S) × IsValue S D (Product (f ∷ fs)) q × IsStep q g p
    product_value-last f fs g p is =
        let whole = product_value f (fs ++ g ∷ []) p is in
        let last = last_step whole.0 fs g p whole.2 in
        (last.0, of_product f fs whole.0 last.0 whole.1 last.1, last.2)

    pub power_value : (b : Expr) (e : ℕ) (p : Poly S) → IsValue S D (Power b e) p
        → (v : Poly S) × IsValue S D b v × (p ≡ truncated D (power v e))
    unfolding hidden-the_row-Expr-2 hidden
    power_value b e p is = is
