-- The value of a tree without divisions, as a formal sum that computes: it is a value, and the only one.
use Rattle.std.proofs.Common.{◌≡◌, ℕ, zero, suc, ◌-◌, Bool, true, false, cond, T, List, [], ◌∷◌, ◌++◌, refl, sym, ◌∙◌}
use Rattle.std.proofs.Common.{ap, not, ◌&&◌}
use Rattle.std.specs.Prelude.{nat_le}
use Rattle.ps_model.specs.declared.expr.Expr.{Expr, Number, Name, MainVariable, Sum', Product', Power'}
use Rattle.ps_model.specs.declared.expr.Expr.{end_of-Expr, more_of-Expr}
use Rattle.ps_model.specs.declared.expr.Expr.{Row_of-Summand, end_of-Summand, more_of-Summand}
use Rattle.ps_model.specs.declared.expr.Expr.{Row_of-Factor, end_of-Factor, more_of-Factor}
use Rattle.ps_model.specs.Sums.{multiples, products, kept}
use Rattle.ps_model.specs.Keys.{Key, y_key}
use Rattle.ps_model.specs.Polynomial.{polynomial, monomial, sum, negative, product, power}
use Rattle.ps_model.specs.Truncation.{truncated}
use Rattle.ps_model.specs.SeriesRing.{SeriesRing, ring, degree, Poly}
use Rattle.ps_model.specs.Value.{variable_key, IsValue, IsSumValue, IsProductValue, IsLaterValue}
use Rattle.ps_model.proofs.Maps.{first_part, second_part}
use Rattle.ps_model.proofs.FormalSums.{normal, polynomial-normal, zero_listed, one_listed, monomial_listed}
use Rattle.ps_model.proofs.FormalSums.{sum_listed}
use Rattle.ps_model.proofs.FormalSums.{negative_listed, product_listed, kept_listed}

abbrev mutual
  pub undivided : Expr → Bool
  undivided (Number c) = true
  undivided (Name i) = true
  undivided MainVariable = true
  undivided (Sum' shape summands) = undivided_summands summands
  undivided (Product' shape factors) = undivided_product factors
  undivided (Power' shape (more_of-Expr base end_of-Expr) exponent) = undivided base

  pub undivided_summands : {m : _} → Row_of-Summand m → Bool
  undivided_summands end_of-Summand = true
  undivided_summands (more_of-Summand minus of rest) = undivided of && undivided_summands rest

  pub undivided_product : {m : _} → Row_of-Factor m → Bool
  undivided_product end_of-Factor = false
  undivided_product (more_of-Factor divide of rest) = undivided of && undivided_factors rest

  pub undivided_factors : {m : _} → Row_of-Factor m → Bool
  undivided_factors end_of-Factor = true
  undivided_factors (more_of-Factor divide of rest) = not divide && (undivided of && undivided_factors rest)

module _ (S : SeriesRing) where
  abbrev pub times : List (Key S.variables × ℕ) → List (Key S.variables × ℕ) → List (Key S.variables × ℕ)
  times es fs = products (ring S).◌⊕◌ es fs

  abbrev pub power_entries : List (Key S.variables × ℕ) → ℕ → List (Key S.variables × ℕ)
  power_entries es zero = (y_key S.variables 0, 1) ∷ []
  power_entries es (suc e) = normal (ring S) (times es (power_entries es e))

  abbrev pub signed : Bool → List (Key S.variables × ℕ) → List (Key S.variables × ℕ)
  signed minus es = cond minus (multiples (S.modulus - 1) es) es

  pub power_listed : (es : List (Key S.variables × ℕ)) (e : ℕ) → power (ring S) (polynomial (ring S) es) e
      ≡ polynomial (ring S) (power_entries es e)
  power_listed es zero = one_listed (ring S)
  power_listed es (suc e) = ap (product (ring S) (polynomial (ring S) es)) (power_listed es e)
      ∙ product_listed (ring S) es (power_entries es e) ∙ sym (polynomial-normal (ring S) _)

  module _ (D : ℕ) where
    abbrev pub cut : List (Key S.variables × ℕ) → List (Key S.variables × ℕ)
    cut es = kept (λ k. nat_le (degree S k) D) es

    pub truncated_listed : (es : List (Key S.variables × ℕ)) → truncated (ring S) (degree S) D (polynomial (ring S) es)
        ≡ polynomial (ring S) (cut es)
    unfolding truncated
    truncated_listed es = kept_listed (ring S) _ es

    abbrev mutual
      pub evaluated : Expr → List (Key S.variables × ℕ)
      evaluated (Number c) = cut ((y_key S.variables 0, c) ∷ [])
      evaluated (Name i) = cut ((variable_key S.variables i, 1) ∷ [])
      evaluated MainVariable = cut ((y_key S.variables 1, 1) ∷ [])
      evaluated (Sum' shape summands) = evaluated_sum summands
      evaluated (Product' shape factors) = evaluated_product factors
      evaluated (Power' shape (more_of-Expr base end_of-Expr) exponent) = cut (power_entries (evaluated base) exponent)

      pub evaluated_sum : {m : _} → Row_of-Summand m → List (Key S.variables × ℕ)
      evaluated_sum end_of-Summand = []
      evaluated_sum (more_of-Summand minus of rest) =
          normal (ring S) (signed minus (evaluated of) ++ evaluated_sum rest)

      pub evaluated_product : {m : _} → Row_of-Factor m → List (Key S.variables × ℕ)
      evaluated_product end_of-Factor = []
      evaluated_product (more_of-Factor divide of rest) = evaluated_factors (evaluated of) rest

      pub evaluated_factors : {m : _} → List (Key S.variables × ℕ) → Row_of-Factor m → List (Key S.variables × ℕ)
      evaluated_factors first end_of-Factor = first
      evaluated_factors first (more_of-Factor divide of rest) =
          evaluated_factors (normal (ring S) (cut (times first (evaluated of)))) rest

    of_monomial : (c : ℕ) (k : Key S.variables) → truncated (ring S) (degree S) D (monomial (ring S) c k)
        ≡ polynomial (ring S) (cut ((k, c) ∷ []))
    of_monomial c k = ap (truncated (ring S) (degree S) D) (monomial_listed (ring S) c k)
        ∙ truncated_listed ((k, c) ∷ [])

    of_power : (es : List (Key S.variables × ℕ)) (e : ℕ) → truncated (ring S) (degree S) D
        (power (ring S) (polynomial (ring S) es) e) ≡ polynomial (ring S) (cut (power_entries es e))
    of_power es e = ap (truncated (ring S) (degree S) D) (power_listed es e) ∙ truncated_listed (power_entries es e)

    pub of_sum : (minus : Bool) (es fs : List (Key S.variables × ℕ)) → sum (ring S)
        (cond minus (negative (ring S) (polynomial (ring S) es)) (polynomial (ring S) es)) (polynomial (ring S) fs)
        ≡ polynomial (ring S) (normal (ring S) (signed minus es ++ fs))
    of_sum true es fs = ap (λ p. sum (ring S) p (polynomial (ring S) fs)) (negative_listed (ring S) es)
        ∙ sum_listed (ring S) _ fs ∙ sym (polynomial-normal (ring S) _)
    of_sum false es fs = sum_listed (ring S) es fs ∙ sym (polynomial-normal (ring S) _)

    of_product : (es fs : List (Key S.variables × ℕ)) → truncated (ring S) (degree S) D
        (product (ring S) (polynomial (ring S) es) (polynomial (ring S) fs)) ≡ polynomial (ring S)
        (normal (ring S) (cut (times es fs)))
    of_product es fs = ap (truncated (ring S) (degree S) D) (product_listed (ring S) es fs)
        ∙ truncated_listed (times es fs) ∙ sym (polynomial-normal (ring S) _)

    mutual
      -- it is a value
      pub is_value : (e : Expr) → T (undivided e) → IsValue S D e (polynomial (ring S) (evaluated e))
      is_value (Number c) h = sym (of_monomial c (y_key S.variables 0))
      is_value (Name i) h = sym (of_monomial 1 (variable_key S.variables i))
      is_value MainVariable h = sym (of_monomial 1 (y_key S.variables 1))
      is_value (Sum' shape summands) h = is_sum_value summands h
      is_value (Product' shape factors) h = is_product_value factors h
      is_value (Power' shape (more_of-Expr base end_of-Expr) exponent) h =
          (polynomial (ring S) (evaluated base), is_value base h, sym (of_power (evaluated base) exponent))

      is_sum_value : {m : _} (row : Row_of-Summand m) → T (undivided_summands row)
          → IsSumValue S D row (polynomial (ring S) (evaluated_sum row))
      is_sum_value end_of-Summand h = sym (zero_listed (ring S))
      is_sum_value (more_of-Summand minus of rest) h = (
        polynomial (ring S) (evaluated of),
        polynomial (ring S) (evaluated_sum rest),
        is_value of (first_part _ _ h),
        is_sum_value rest (second_part _ _ h),
        sym (of_sum minus (evaluated of) (evaluated_sum rest)),
      )

      is_product_value : {m : _} (row : Row_of-Factor m) → T (undivided_product row)
          → IsProductValue S D row (polynomial (ring S) (evaluated_product row))
      is_product_value end_of-Factor h = h
      is_product_value (more_of-Factor divide of rest) h = (
        polynomial (ring S) (evaluated of),
        is_value of (first_part _ _ h),
        is_later_value (evaluated of) rest (second_part _ _ h),
      )

      is_later_value : {m : _} (first : List (Key S.variables × ℕ)) (row : Row_of-Factor m)
          → T (undivided_factors row)
          → IsLaterValue S D (polynomial (ring S) first) row (polynomial (ring S) (evaluated_factors first row))
      is_later_value first end_of-Factor h = refl
      is_later_value first (more_of-Factor true of rest) h = absurd h
      is_later_value first (more_of-Factor false of rest) h = (
        polynomial (ring S) (evaluated of),
        polynomial (ring S) (normal (ring S) (cut (times first (evaluated of)))),
        is_value of (first_part _ _ h),
        sym (of_product first (evaluated of)),
        is_later_value _ rest (second_part _ _ h),
      )

    mutual
      -- and the only one
      pub only_value : (e : Expr) → T (undivided e) → (p : Poly S) → IsValue S D e p
          → p ≡ polynomial (ring S) (evaluated e)
      only_value (Number c) h p is = is ∙ of_monomial c (y_key S.variables 0)
      only_value (Name i) h p is = is ∙ of_monomial 1 (variable_key S.variables i)
      only_value MainVariable h p is = is ∙ of_monomial 1 (y_key S.variables 1)
      only_value (Sum' shape summands) h p is = only_sum_value summands h p is
      only_value (Product' shape factors) h p is = only_product_value factors h p is
      only_value (Power' shape (more_of-Expr base end_of-Expr) exponent) h p (v, is, at) = at
          ∙ ap (λ v. truncated (ring S) (degree S) D (power (ring S) v exponent)) (only_value base h v is)
          ∙ of_power (evaluated base) exponent

      only_sum_value : {m : _} (row : Row_of-Summand m) → T (undivided_summands row) → (p : Poly S)
          → IsSumValue S D row p → p ≡ polynomial (ring S) (evaluated_sum row)
      only_sum_value end_of-Summand h p is = is ∙ zero_listed (ring S)
      only_sum_value (more_of-Summand minus of rest) h p (v, others, is, are, at) = at
          ∙ (λ i. let w = only_value of (first_part _ _ h) v is i in
          sum (ring S) (cond minus (negative (ring S) w) w) (only_sum_value rest (second_part _ _ h) others are i))
          ∙ of_sum minus (evaluated of) (evaluated_sum rest)

      only_product_value : {m : _} (row : Row_of-Factor m) → T (undivided_product row) → (p : Poly S)
          → IsProductValue S D row p → p ≡ polynomial (ring S) (evaluated_product row)
      only_product_value end_of-Factor h p is = absurd h
      only_product_value (more_of-Factor divide of rest) h p (v, is, later) =
          only_later_value (evaluated of) rest (second_part _ _ h) v p (only_value of (first_part _ _ h) v is) later

      only_later_value : {m : _} (first : List (Key S.variables × ℕ)) (row : Row_of-Factor m)
          → T (undivided_factors row) → (q p : Poly S) → q ≡ polynomial (ring S) first → IsLaterValue S D q row p
          → p ≡ polynomial (ring S) (evaluated_factors first row)
      only_later_value first end_of-Factor h q p at is = is ∙ at
      only_later_value first (more_of-Factor true of rest) h q p at is = absurd h
      only_later_value first (more_of-Factor false of rest) h q p at (v, next, is, step, later) =
          only_later_value _ rest (second_part _ _ h) next p (step
          ∙ (λ i. truncated (ring S) (degree S) D
          (product (ring S) (at i) (only_value of (first_part _ _ h) v is i)))
          ∙ of_product first (evaluated of)) later
