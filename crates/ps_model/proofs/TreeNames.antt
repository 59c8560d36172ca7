-- Only the values of names that stand in a tree count for its value, and those only up to the degree.
use Rattle.std.proofs.Common.{◌≡◌, ℕ, ◌<◌, Bool, true, false, cond, refl, subst, ◌&&◌}
use Rattle.ps_model.specs.declared.expr.Expr.{Expr, Number, Name, MainVariable, Sum', Product', Power'}
use Rattle.ps_model.specs.declared.expr.Expr.{end_of-Expr, more_of-Expr}
use Rattle.ps_model.specs.declared.expr.Expr.{Row_of-Summand, end_of-Summand, more_of-Summand}
use Rattle.ps_model.specs.declared.expr.Expr.{Row_of-Factor, end_of-Factor, more_of-Factor}
use Rattle.ps_model.specs.Polynomial.{sum, negative, product, power}
use Rattle.ps_model.specs.Truncation.{truncated}
use Rattle.ps_model.specs.Notation.{constant_term}
use Rattle.ps_model.specs.Bounds.{IsUnit}
use Rattle.ps_model.specs.Prepared.{IsQuotient}
use Rattle.ps_model.specs.SeriesRing.{SeriesRing, ring, degree, Poly}
use Rattle.ps_model.specs.Tree.{has_y, is_number, are_numbers, factors_are_numbers, IsValidTree, AreValidSummands}
use Rattle.ps_model.specs.Tree.{AreValidFactors}
use Rattle.ps_model.specs.Value.{IsValueWith, IsSumValueWith, IsProductValueWith, IsLaterValueWith}

-- each name in the tree has the property
module _ (P : ℕ → Type 0) where
  abbrev mutual
    pub AllNames : Expr → Type 0
    AllNames (Number c) = Unit {0}
    AllNames (Name i) = P i
    AllNames MainVariable = Unit {0}
    AllNames (Sum' shape summands) = SummandNames summands
    AllNames (Product' shape factors) = FactorNames factors
    AllNames (Power' shape (more_of-Expr base end_of-Expr) exponent) = AllNames base

    pub SummandNames : {m : _} → Row_of-Summand m → Type 0
    SummandNames end_of-Summand = Unit {0}
    SummandNames (more_of-Summand minus of rest) = AllNames of × SummandNames rest

    pub FactorNames : {m : _} → Row_of-Factor m → Type 0
    FactorNames end_of-Factor = Unit {0}
    FactorNames (more_of-Factor divide of rest) = AllNames of × FactorNames rest

module _ (S : SeriesRing) (D : ℕ) (P : ℕ → Type 0) (f g : ℕ → Poly S)
    (same : (i : ℕ) → P i → truncated (ring S) (degree S) D (f i) ≡ truncated (ring S) (degree S) D (g i))
  where
    mutual
      -- as types
      pub alike_value : (e : Expr) (p : Poly S) → AllNames P e
          → ◌≡◌ {A = Type 0} (IsValueWith S D f e p) (IsValueWith S D g e p)
      alike_value (Number c) p h = refl
      alike_value (Name i) p h = λ l. p ≡ same i h l
      alike_value MainVariable p h = refl
      alike_value (Sum' shape summands) p h = alike_sum summands p h
      alike_value (Product' shape factors) p h = alike_product factors p h
      alike_value (Power' shape (more_of-Expr base end_of-Expr) exponent) p h = λ i.
          (v : Poly S) × alike_value base v h i × (p ≡ truncated (ring S) (degree S) D (power (ring S) v exponent))

      alike_sum : {m : _} (row : Row_of-Summand m) (p : Poly S) → SummandNames P row
          → ◌≡◌ {A = Type 0} (IsSumValueWith S D f row p) (IsSumValueWith S D g row p)
      alike_sum end_of-Summand p h = refl
      alike_sum (more_of-Summand minus of rest) p h = λ i. (v : Poly S) × (others : Poly S)
          × alike_value of v h.0 i × alike_sum rest others h.1 i
          × (p ≡ sum (ring S) (cond minus (negative (ring S) v) v) others)

      alike_product : {m : _} (row : Row_of-Factor m) (p : Poly S) → FactorNames P row
          → ◌≡◌ {A = Type 0} (IsProductValueWith S D f row p) (IsProductValueWith S D g row p)
      alike_product end_of-Factor p h = refl
      alike_product (more_of-Factor divide of rest) p h = λ i. (v : Poly S) × alike_value of v h.0 i
          × alike_later rest v p h.1 i

      alike_later : {m : _} (row : Row_of-Factor m) (first p : Poly S) → FactorNames P row
          → ◌≡◌ {A = Type 0} (IsLaterValueWith S D f first row p) (IsLaterValueWith S D g first row p)
      alike_later end_of-Factor first p h = refl
      alike_later (more_of-Factor true of rest) first p h = λ i. (v : Poly S) × (next : Poly S)
          × alike_value of v h.0 i
          × ((has_y of ≡ false) × IsUnit S.modulus (constant_term v) × IsQuotient D first v next)
          × alike_later rest next p h.1 i
      alike_later (more_of-Factor false of rest) first p h = λ i. (v : Poly S) × (next : Poly S)
          × alike_value of v h.0 i × (next ≡ truncated (ring S) (degree S) D (product (ring S) first v))
          × alike_later rest next p h.1 i

    -- the value with the one is the value with the other
    pub other_value : (e : Expr) (p : Poly S) → AllNames P e → IsValueWith S D f e p → IsValueWith S D g e p
    other_value e p h is = subst (λ X. X) (alike_value e p h) is

mutual
  -- the names of a well-formed tree
  pub valid_names : (names : ℕ) (e : Expr) → IsValidTree names e → AllNames (λ i. i < names) e
  valid_names names (Number c) h = tt
  valid_names names (Name i) h = h
  valid_names names MainVariable h = tt
  valid_names names (Sum' shape summands) h = summand_names names summands h.1
  valid_names names (Product' shape factors) h = factor_names names factors h.1
  valid_names names (Power' shape (more_of-Expr base end_of-Expr) exponent) h = valid_names names base h.0

  summand_names : {m : _} (names : ℕ) (row : Row_of-Summand m) → AreValidSummands names row
      → SummandNames (λ i. i < names) row
  summand_names names end_of-Summand h = tt
  summand_names names (more_of-Summand minus of rest) h = (valid_names names of h.0, summand_names names rest h.1)

  factor_names : {m : _} (names : ℕ) (row : Row_of-Factor m) → AreValidFactors names row
      → FactorNames (λ i. i < names) row
  factor_names names end_of-Factor h = tt
  factor_names names (more_of-Factor divide of rest) h = (valid_names names of h.0, factor_names names rest h.1)

pub left_true : (a b : Bool) → (a && b) ≡ true → a ≡ true
left_true true b e = refl
left_true false b e = e

pub right_true : (a b : Bool) → (a && b) ≡ true → b ≡ true
right_true true b e = e
right_true false b e = absurd (cc)

mutual
  -- a number has none
  pub number_names : (e : Expr) → is_number e ≡ true → AllNames (λ i. ⊥) e
  number_names (Number c) h = tt
  number_names (Name i) h = absurd (cc)
  number_names MainVariable h = tt
  number_names (Sum' shape summands) h = numbers_names summands h
  number_names (Product' shape factors) h = factors_names factors h
  number_names (Power' shape (more_of-Expr base end_of-Expr) exponent) h = number_names base h

  numbers_names : {m : _} (row : Row_of-Summand m) → are_numbers row ≡ true → SummandNames (λ i. ⊥) row
  numbers_names end_of-Summand h = tt
  numbers_names (more_of-Summand minus of rest) h =
      (number_names of (left_true _ _ h), numbers_names rest (right_true _ _ h))

  factors_names : {m : _} (row : Row_of-Factor m) → factors_are_numbers row ≡ true → FactorNames (λ i. ⊥) row
  factors_names end_of-Factor h = tt
  factors_names (more_of-Factor divide of rest) h =
      (number_names of (left_true _ _ h), factors_names rest (right_true _ _ h))
