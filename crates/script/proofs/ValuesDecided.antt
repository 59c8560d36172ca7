-- Whether a tree has a value up to a degree.
use Rattle.std.proofs.Common.{◌≡◌, ℕ, ◌⊎◌, inl, inr, Bool, true, false, cond, refl, sym, ◌∙◌, ap, subst}
use Rattle.ps_model.specs.declared.expr.Expr.{Expr, Number, Name, MainVariable, Sum', Product', Power'}
use Rattle.ps_model.specs.declared.expr.Expr.{end_of-Expr, more_of-Expr}
use Rattle.ps_model.specs.declared.expr.Expr.{Row_of-Summand, end_of-Summand, more_of-Summand}
use Rattle.ps_model.specs.declared.expr.Expr.{Row_of-Factor, end_of-Factor, more_of-Factor}
use Rattle.ps_model.specs.Ring.{Ring}
use Rattle.ps_model.specs.Keys.{y_key}
use Rattle.ps_model.specs.Polynomial.{coefficient, monomial, sum, negative, product, power, zero as nought}
use Rattle.ps_model.specs.Truncation.{truncated}
use Rattle.ps_model.specs.Bounds.{HasNoPowerAbove, HasNoDegreeAbove, IsUnit, ExactlyOne}
use Rattle.ps_model.specs.Prepared.{IsQuotient}
use Rattle.ps_model.specs.SeriesRing.{SeriesRing, ring, Poly}
use Rattle.ps_model.specs.Tree.{has_y}
use Rattle.ps_model.specs.Value.{IsValueWith, IsSumValueWith, IsProductValueWith, IsLaterValueWith}
use Rattle.ps_model.proofs.Factors.{truncated-again}
use Rattle.ps_model.proofs.Quotients.{one_quotient}
use Rattle.ps_model.proofs.TreeValues.{value_flat, value_within, same_value}
use Rattle.ps_model.proofs.UnitsDecided.{unit_decided}

-- whether a test passes
pub bool_decided : (b : Bool) → (b ≡ true) ⊎ (b ≡ false)
bool_decided true = inl refl
bool_decided false = inr refl

pub not_both : true ≡ false → ⊥
not_both e = cc

-- where no name's value has Y
module _ (S : SeriesRing) (values : ℕ → Poly S) (flat : (i : ℕ) → HasNoPowerAbove 0 (values i)) (D : ℕ) where
  abbrev R : Ring
  R = ring S

  abbrev Decided : (Poly S → Type 0) → Type 0
  Decided P = ((p : Poly S) × P p) ⊎ ((p : Poly S) → P p → ⊥)

  same : (of : Expr) (v w : Poly S) → IsValueWith S D values of v → IsValueWith S D values of w → v ≡ w
  same of v w is is' = same_value S values flat D of v w is is'

  -- a product so far, and one factor more, whose value is known
  multiplied : {m : _} (of : Expr) (row : Row_of-Factor m) (first v : Poly S) → IsValueWith S D values of v
      → ((next : Poly S) → HasNoDegreeAbove D next → Decided (IsLaterValueWith S D values next row))
      → Decided (IsLaterValueWith S D values first (more_of-Factor false of row))
  multiplied of row first v is later =
      elim (later (truncated R R.degree D (product R first v)) (truncated-again R R.degree D _)) [
        | inl found ↦ inl (found.0, (v, truncated R R.degree D (product R first v), is, refl, found.1))
        | inr none ↦ inr (λ p (w, next, at, step, rest). none p (subst (λ q. IsLaterValueWith S D values q row p)
            (step ∙ ap (λ x. truncated R R.degree D (product R first x)) (same of w v at is)) rest))
      ]

  -- and one divisor more, without Y
  divided : {m : _} (of : Expr) (row : Row_of-Factor m) (first v : Poly S) → HasNoDegreeAbove D first
      → has_y of ≡ false → IsValueWith S D values of v
      → ((next : Poly S) → HasNoDegreeAbove D next → Decided (IsLaterValueWith S D values next row))
      → Decided (IsLaterValueWith S D values first (more_of-Factor true of row))
  divided of row first v within none is later = elim (unit_decided S.modulus (coefficient R v R.origin)) [
    | inr other ↦ inr (λ p (w, next, at, step, rest). other (subst
        (λ q. IsUnit S.modulus (coefficient R q R.origin)) (same of w v at is) step.1))
    | inl unit ↦ by_quotient unit
        (one_quotient R v (value_flat S values flat D of v none is) unit D first within)
  ]
    where
      by_quotient : IsUnit S.modulus (coefficient R v R.origin) → ExactlyOne (IsQuotient D first v)
          → Decided (IsLaterValueWith S D values first (more_of-Factor true of row))
      by_quotient unit quotient = elim (later quotient.one_value quotient.meets.within) [
        | inl found ↦ inl (found.0, (v, quotient.one_value, is, (none, unit, quotient.meets), found.1))
        | inr never ↦ inr (λ p (w, next, at, step, rest). never p (subst
            (λ q. IsLaterValueWith S D values q row p) (quotient.only next
            (subst (λ b. IsQuotient D first b next) (same of w v at is) step.2)) rest))
      ]

  mutual
    pub value_decided : (e : Expr) → Decided (IsValueWith S D values e)
    value_decided (Number c) = inl (truncated R R.degree D (monomial R c (y_key S.variables 0)), refl)
    value_decided (Name i) = inl (truncated R R.degree D (values i), refl)
    value_decided MainVariable = inl (truncated R R.degree D (monomial R 1 (y_key S.variables 1)), refl)
    value_decided (Sum' shape summands) = sum_decided summands
    value_decided (Product' shape factors) = product_decided factors
    value_decided (Power' shape (more_of-Expr base end_of-Expr) exponent) = elim (value_decided base) [
      | inl found ↦ inl (truncated R R.degree D (power R found.0 exponent), (found.0, found.1, refl))
      | inr none ↦ inr (λ p (v, is, at). none v is)
    ]

    sum_decided : {m : _} (row : Row_of-Summand m) → Decided (IsSumValueWith S D values row)
    sum_decided end_of-Summand = inl (nought R, refl)
    sum_decided (more_of-Summand minus of rest) = elim (value_decided of) [
      | inr none ↦ inr (λ p (v, others, is, are, at). none v is)
      | inl v ↦ elim (sum_decided rest) [
        | inr none ↦ inr (λ p (v, others, is, are, at). none others are)
        | inl others ↦ inl
            (sum R (cond minus (negative R v.0) v.0) others.0, (v.0, others.0, v.1, others.1, refl))
      ]
    ]

    product_decided : {m : _} (row : Row_of-Factor m) → Decided (IsProductValueWith S D values row)
    product_decided end_of-Factor = inr (λ p is. is)
    product_decided (more_of-Factor divide of rest) = elim (value_decided of) [
      | inr none ↦ inr (λ p (v, is, later). none v is)
      | inl v ↦ elim (later_decided rest v.0 (value_within S values D of v.0 v.1)) [
        | inl later ↦ inl (later.0, (v.0, v.1, later.1))
        | inr none ↦ inr (λ p (w, is, later). none p (subst (λ q. IsLaterValueWith S D values q rest p)
            (same of w v.0 is v.1) later))
      ]
    ]

    later_decided : {m : _} (row : Row_of-Factor m) (first : Poly S) → HasNoDegreeAbove D first
        → Decided (IsLaterValueWith S D values first row)
    later_decided end_of-Factor first within = inl (first, refl)
    later_decided (more_of-Factor false of rest) first within = elim (value_decided of) [
      | inr none ↦ inr (λ p (v, next, is, step, later). none v is)
      | inl v ↦ multiplied of rest first v.0 v.1 (λ next low. later_decided rest next low)
    ]
    later_decided (more_of-Factor true of rest) first within = elim (bool_decided (has_y of)) [
      | inl some ↦ inr (λ p (v, next, is, step, later). not_both (sym some ∙ step.0))
      | inr none ↦ elim (value_decided of) [
        | inr never ↦ inr (λ p (v, next, is, step, later). never v is)
        | inl v ↦ divided of rest first v.0 within none v.1 (λ next low. later_decided rest next low)
      ]
    ]
