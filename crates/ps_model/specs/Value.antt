-- What a tree stands for: its value up to a degree, and its leading number.
--     variable_key n i      the key of the variable i of n; of none, the key of 1
--     variable S i      the variable at place i
--     AreWithoutY S names values      no value of a name below names has Y
--     IsValueWith S D values e p      p is the value of the tree e, truncated at D, where the name at
--         place i has the value values i
--     IsValue S D e p      the same where each name is its variable, as in a job
--     HasLead S e l      the leading number of e, the coefficient of Y ^ formal_degree, is known by
--         the tree's form, and is l
use Rattle.std.specs.Prelude.{◌≡◌, ℕ, zero, suc, ◌+◌, ◌-◌, ◌*◌, ◌%◌, ◌^◌, ◌<◌, ◌==◌, ◌⊎◌, true, false, MatchBool}
use Rattle.std.specs.Prelude.{if◌then◌else◌}
use Rattle.ps_model.specs.declared.expr.Expr.{Expr, Number, Name, MainVariable, Sum', Product', Power'}
use Rattle.ps_model.specs.declared.expr.Expr.{end_of-Expr, more_of-Expr}
use Rattle.ps_model.specs.declared.expr.Expr.{Row_of-Summand, end_of-Summand, more_of-Summand}
use Rattle.ps_model.specs.declared.expr.Expr.{Row_of-Factor, end_of-Factor, more_of-Factor}
use Rattle.ps_model.specs.Keys.{Powers, Key, no_powers, y_key}
use Rattle.ps_model.specs.Notation.{zero as nought, monomial, constant_term, sum, negative, product, power, truncated}
use Rattle.ps_model.specs.Bounds.{HasNoPowerAbove, IsUnit}
use Rattle.ps_model.specs.Prepared.{IsQuotient}
use Rattle.ps_model.specs.SeriesRing.{SeriesRing, Poly}
use Rattle.ps_model.specs.Tree.{formal_degree, greatest_degree, has_y, is_number}

abbrev pub one_power : (n i : ℕ) → Powers n
one_power zero i = tt
one_power (suc n) zero = (1, no_powers n)
one_power (suc n) (suc i) = (0, one_power n i)

abbrev pub variable_key : (n i : ℕ) → Key n
variable_key n i = record { powers = one_power n i; y = 0 }

module _ (S : SeriesRing) where
  abbrev pub variable : ℕ → Poly S
  variable i = monomial 1 (variable_key S.variables i)

  abbrev pub AreWithoutY : ℕ → (ℕ → Poly S) → Type 0
  AreWithoutY names values = (i : ℕ) → i < names → HasNoPowerAbove 0 (values i)

  module _ (D : ℕ) (values : ℕ → Poly S) where
    abbrev mutual
      pub IsValueWith : Expr → Poly S → Type 0
      IsValueWith (Number c) p = p ≡ truncated D (monomial c (y_key S.variables 0))
      IsValueWith (Name i) p = p ≡ truncated D (values i)
      IsValueWith MainVariable p = p ≡ truncated D (monomial 1 (y_key S.variables 1))
      IsValueWith (Sum' shape summands) p = IsSumValueWith summands p
      IsValueWith (Product' shape factors) p = IsProductValueWith factors p
      IsValueWith (Power' shape (more_of-Expr base end_of-Expr) exponent) p =
          (v : Poly S) × IsValueWith base v × (p ≡ truncated D (power v exponent))

      pub IsSumValueWith : {m : _} → Row_of-Summand m → Poly S → Type 0
      IsSumValueWith end_of-Summand p = p ≡ nought
      IsSumValueWith (more_of-Summand minus of rest) p =
          (v : Poly S) × (others : Poly S) × IsValueWith of v × IsSumValueWith rest others
          × (p ≡ sum (if minus then negative v else v) others)

      pub IsProductValueWith : {m : _} → Row_of-Factor m → Poly S → Type 0
      IsProductValueWith end_of-Factor p = ⊥
      IsProductValueWith (more_of-Factor divide of rest) p =
          (v : Poly S) × IsValueWith of v × IsLaterValueWith v rest p

      -- The value of the product, from that of its first factors and the later ones: a divisor has no Y and a unit as
      -- constant term, and times the quotient it gives back what was divided.
      pub IsLaterValueWith : {m : _} → Poly S → Row_of-Factor m → Poly S → Type 0
      IsLaterValueWith first end_of-Factor p = p ≡ first
      IsLaterValueWith first (more_of-Factor divide of rest) p =
          (v : Poly S) × (next : Poly S) × IsValueWith of v
          × MatchBool divide
          ((has_y of ≡ false) × IsUnit S.modulus (constant_term v) × IsQuotient D first v next)
          (next ≡ truncated D (product first v))
          × IsLaterValueWith next rest p

  abbrev pub IsValue : ℕ → Expr → Poly S → Type 0
  IsValue D = IsValueWith D variable

  abbrev pub IsSumValue : ℕ → {m : _} → Row_of-Summand m → Poly S → Type 0
  IsSumValue D = IsSumValueWith D variable

  abbrev pub IsProductValue : ℕ → {m : _} → Row_of-Factor m → Poly S → Type 0
  IsProductValue D = IsProductValueWith D variable

  abbrev pub IsLaterValue : ℕ → {m : _} → Poly S → Row_of-Factor m → Poly S → Type 0
  IsLaterValue D = IsLaterValueWith D variable

  -- the share of a divisor in a leading number: the inverse of a plain number that is a unit
  abbrev pub HasInverseShare : Expr → ℕ → Type 0
  HasInverseShare of l =
      (is_number of ≡ true) × (v : Poly S) × IsValue 0 of v
      × (l < S.modulus) × ((constant_term v * l) % S.modulus ≡ 1)

  abbrev mutual
    pub HasLead : Expr → ℕ → Type 0
    HasLead (Number c) l = l ≡ c % S.modulus
    HasLead (Name i) l = ⊥
    HasLead MainVariable l = l ≡ 1
    HasLead (Sum' shape summands) l = HasSumLead (greatest_degree summands) summands l
    HasLead (Product' shape factors) l = HasProductLead factors l
    HasLead (Power' shape (more_of-Expr base end_of-Expr) exponent) l =
        ((exponent ≡ 0) × (l ≡ 1)) ⊎ ((0 < exponent) × (b : ℕ) × HasLead base b × (l ≡ b ^ exponent % S.modulus))

    -- the sum over the summands of this degree
    pub HasSumLead : {m : _} → ℕ → Row_of-Summand m → ℕ → Type 0
    HasSumLead d end_of-Summand l = l ≡ 0
    HasSumLead d (more_of-Summand minus of rest) l =
        MatchBool (formal_degree of == d)
        ((a : ℕ) × (others : ℕ) × HasLead of a × HasSumLead d rest others
        × (l ≡ ((if minus then S.modulus - a else a) + others) % S.modulus))
        (HasSumLead d rest l)

    pub HasProductLead : {m : _} → Row_of-Factor m → ℕ → Type 0
    HasProductLead end_of-Factor l = l ≡ 1
    HasProductLead (more_of-Factor divide of rest) l =
        (a : ℕ) × (others : ℕ) × MatchBool divide (HasInverseShare of a) (HasLead of a) × HasProductLead rest others
        × (l ≡ (a * others) % S.modulus)
