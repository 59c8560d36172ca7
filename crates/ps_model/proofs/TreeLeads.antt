-- Values of well-formed trees: no power of Y above the formal degree, and there the leading number where it is known.
use Rattle.std.proofs.Common.{◌≡◌, ℕ, ◌+◌, ◌-◌, ◌*◌, ◌%◌, ◌^◌, ◌<◌, ◌≤◌, Bool, true, false, cond, inl, inr}
use Rattle.std.proofs.Common.{refl, sym, ◌∙◌, ap, subst, arith, ◌||◌}
use Rattle.std.specs.Prelude.{max, ◌==◌, MatchBool}
use Rattle.std.proofs.Math.Nat.{mod-lt, mod-mod, mod_self, mod-eq_of_lt, mul-one}
use Rattle.std.proofs.lemmas.Bool.{eqb-true, eqb-false}
use Rattle.ps_model.specs.declared.expr.Expr.{Expr, Number, Name, MainVariable, Sum', Product', Power'}
use Rattle.ps_model.specs.declared.expr.Expr.{end_of-Expr, more_of-Expr}
use Rattle.ps_model.specs.declared.expr.Expr.{Row_of-Summand, end_of-Summand, more_of-Summand}
use Rattle.ps_model.specs.declared.expr.Expr.{Row_of-Factor, end_of-Factor, more_of-Factor}
use Rattle.ps_model.specs.Ring.{Ring}
use Rattle.ps_model.specs.Polynomial.{coefficient, monomial, sum, negative, power, zero as nought}
use Rattle.ps_model.specs.Truncation.{truncated, homogeneous_part}
use Rattle.ps_model.specs.Bounds.{HasNoPowerAbove, HasNoDegreeAbove}
use Rattle.ps_model.specs.SeriesRing.{SeriesRing, ring, Poly}
use Rattle.ps_model.specs.Tree.{formal_degree, greatest_degree, product_degree, has_y, summands_have_y}
use Rattle.ps_model.specs.Tree.{factors_have_y, is_number, are_numbers, factors_are_numbers, IsValidTree}
use Rattle.ps_model.specs.Tree.{AreFactors, AreValidSummands, AreValidFactors}
use Rattle.ps_model.specs.Value.{variable, IsValue, IsValueWith, IsSumValueWith, IsProductValueWith}
use Rattle.ps_model.specs.Value.{IsLaterValueWith, HasInverseShare}
use Rattle.ps_model.specs.Value.{HasLead, HasSumLead, HasProductLead}
use Rattle.ps_model.proofs.Coefficients.{above_zero}
use Rattle.ps_model.proofs.RingLaws.{mul-mod_last}
use Rattle.ps_model.proofs.KeptTerms.{kept_terms-zero}
use Rattle.ps_model.proofs.Truncations.{truncated-zero}
use Rattle.ps_model.proofs.Origin.{constant_is, coefficient-truncated_constant}
use Rattle.ps_model.proofs.PowerBounds.{truncated-nothing, truncated-monomial, bound-more, bound-truncated, bound-sum}
use Rattle.ps_model.proofs.PowerBounds.{bound-negative, bound-product, bound-power, bound-quotient, power_bound-more}
use Rattle.ps_model.proofs.PowerBounds.{power_bound-truncated, power_bound-sum}
use Rattle.ps_model.proofs.PowerBounds.{power_bound-product, power_bound-power, power_bound-quotient}
use Rattle.ps_model.proofs.TopTerms.{HasTop, monomial-nothing, top-same, top-monomial, top-truncated}
use Rattle.ps_model.proofs.TopTerms.{top-sum, top-negative, top-none, top-product, top-one, top-power, top-quotient}
use Rattle.ps_model.proofs.TreeNames.{left_true, right_true, number_names, other_value}
use Rattle.ps_model.proofs.TreeValues.{value_flat, same_value, value-truncated, variable_flat}

match_cases : {P Q X : Type 0} (b : Bool) → (b ≡ true → P → X) → (b ≡ false → Q → X) → MatchBool b P Q → X
match_cases true f g h = f refl h
match_cases false f g h = g refl h

neither : (a b : Bool) → a ≡ false → b ≡ false → (a || b) ≡ false
neither true b p q = absurd (cc)
neither false b p q = q

false_true : false ≡ true → ⊥
false_true e = cc

-- the first of well-formed factors doesn't divide
pub first_kept : {m : _} (of : Expr) (rest : Row_of-Factor m) → AreFactors (more_of-Factor true of rest) → ⊥
first_kept of end_of-Factor h = h
first_kept of (more_of-Factor d o rest) h = false_true h

mutual
  -- a number has no Y
  pub number_without_y : (e : Expr) → is_number e ≡ true → has_y e ≡ false
  number_without_y (Number c) h = refl
  number_without_y (Name i) h = refl
  number_without_y MainVariable h = absurd (cc)
  number_without_y (Sum' shape summands) h = numbers_without_y summands h
  number_without_y (Product' shape factors) h = factors_without_y factors h
  number_without_y (Power' shape (more_of-Expr base end_of-Expr) exponent) h = number_without_y base h

  numbers_without_y : {m : _} (row : Row_of-Summand m) → are_numbers row ≡ true → summands_have_y row ≡ false
  numbers_without_y end_of-Summand h = refl
  numbers_without_y (more_of-Summand minus of rest) h = neither _ _ (number_without_y of (left_true _ _ h))
      (numbers_without_y rest (right_true _ _ h))

  factors_without_y : {m : _} (row : Row_of-Factor m) → factors_are_numbers row ≡ true → factors_have_y row ≡ false
  factors_without_y end_of-Factor h = refl
  factors_without_y (more_of-Factor divide of rest) h = neither _ _ (number_without_y of (left_true _ _ h))
      (factors_without_y rest (right_true _ _ h))

module _ (S : SeriesRing) where
  small_remainder : (n l : ℕ) → l ≡ n % S.modulus → l < S.modulus
  small_remainder n l e = subst (λ k. k < S.modulus) (sym e) (mod-lt n (above_zero (ring S)))

  small_one : (l : ℕ) → l ≡ 1 → l < S.modulus
  small_one l e = let two = S.at_least_two in omega arith

  mutual
    -- a leading number is a residue
    pub lead_small : (e : Expr) (l : ℕ) → HasLead S e l → l < S.modulus
    lead_small (Number c) l h = small_remainder c l h
    lead_small (Name i) l h = absurd h
    lead_small MainVariable l h = small_one l h
    lead_small (Sum' shape summands) l h = sum_lead_small (greatest_degree summands) summands l h
    lead_small (Product' shape factors) l h = product_lead_small factors l h
    lead_small (Power' shape (more_of-Expr base end_of-Expr) exponent) l h =
        elim h [ inl none ↦ small_one l none.1 | inr some ↦ small_remainder _ l some.3 ]

    sum_lead_small : {m : _} (d : ℕ) (row : Row_of-Summand m) (l : ℕ) → HasSumLead S d row l → l < S.modulus
    sum_lead_small d end_of-Summand l h = subst (λ k. k < S.modulus) (sym h) (above_zero (ring S))
    sum_lead_small d (more_of-Summand minus of rest) l h = match_cases (formal_degree of == d)
        (λ e parts. small_remainder _ l parts.4) (λ e later. sum_lead_small d rest l later) h

    product_lead_small : {m : _} (row : Row_of-Factor m) (l : ℕ) → HasProductLead S row l → l < S.modulus
    product_lead_small end_of-Factor l h = small_one l h
    product_lead_small (more_of-Factor divide of rest) l h = small_remainder _ l h.4

-- where no name's value has Y
module _ (S : SeriesRing) (values : ℕ → Poly S) (flat : (i : ℕ) → HasNoPowerAbove 0 (values i)) (D : ℕ) where
  abbrev R : Ring
  R = ring S

  bound-signed : (d : R.Key → ℕ) (minus : Bool) (K : ℕ) (v : Poly S) → truncated R d K v ≡ v
      → truncated R d K (cond minus (negative R v) v) ≡ cond minus (negative R v) v
  bound-signed d true K v h = bound-negative R d K v h
  bound-signed d false K v h = h

  mutual
    -- the value of a number has degree 0
    pub number_bound : (e : Expr) (p : Poly S) → is_number e ≡ true → IsValueWith S D values e p → HasNoDegreeAbove 0 p
    number_bound (Number c) p h is = subst (HasNoDegreeAbove 0) (sym is) (bound-truncated R R.degree D 0 _
        (truncated-monomial R R.degree 0 c R.origin (let e = R.degree_adds.1 in omega arith)))
    number_bound (Name i) p h is = absurd (cc)
    number_bound MainVariable p h is = absurd (cc)
    number_bound (Sum' shape summands) p h is = numbers_bound summands p h is
    number_bound (Product' shape factors) p h is = product_bound factors p h is
    number_bound (Power' shape (more_of-Expr base end_of-Expr) exponent) p h (v, is, at) =
        subst (HasNoDegreeAbove 0) (sym at) (bound-truncated R R.degree D 0 _
        (bound-more R R.degree (exponent * 0) 0 _ (omega arith)
        (bound-power R R.degree R.degree_adds 0 exponent v (number_bound base v h is))))

    numbers_bound : {m : _} (row : Row_of-Summand m) (p : Poly S) → are_numbers row ≡ true
        → IsSumValueWith S D values row p → HasNoDegreeAbove 0 p
    numbers_bound end_of-Summand p h is = subst (HasNoDegreeAbove 0) (sym is) (truncated-nothing R R.degree 0)
    numbers_bound (more_of-Summand minus of rest) p h (v, others, is, are, at) =
        subst (HasNoDegreeAbove 0) (sym at) (bound-sum R R.degree 0 _ _
        (bound-signed R.degree minus 0 v (number_bound of v (left_true _ _ h) is))
        (numbers_bound rest others (right_true _ _ h) are))

    product_bound : {m : _} (row : Row_of-Factor m) (p : Poly S) → factors_are_numbers row ≡ true
        → IsProductValueWith S D values row p → HasNoDegreeAbove 0 p
    product_bound end_of-Factor p h is = absurd is
    product_bound (more_of-Factor divide of rest) p h (v, is, later) =
        later_bound rest v p (right_true _ _ h) (number_bound of v (left_true _ _ h) is) later

    later_bound : {m : _} (row : Row_of-Factor m) (first p : Poly S) → factors_are_numbers row ≡ true
        → HasNoDegreeAbove 0 first → IsLaterValueWith S D values first row p → HasNoDegreeAbove 0 p
    later_bound end_of-Factor first p h low is = subst (HasNoDegreeAbove 0) (sym is) low
    later_bound (more_of-Factor true of rest) first p h low (v, next, is, step, later) =
        later_bound rest next p (right_true _ _ h) (bound-quotient R R.degree R.degree_adds D 0 first v next
        (value_flat S values flat D of v step.0 is) (number_bound of v (left_true _ _ h) is) step.1 low step.2) later
    later_bound (more_of-Factor false of rest) first p h low (v, next, is, step, later) =
        later_bound rest next p (right_true _ _ h) (subst (HasNoDegreeAbove 0) (sym step)
        (bound-truncated R R.degree D 0 _ (bound-more R R.degree (0 + 0) 0 _ (omega arith)
        (bound-product R R.degree R.degree_adds 0 0 first v low (number_bound of v (left_true _ _ h) is))))) later

  -- the value of a number is its constant term
  pub number_value : (e : Expr) (p : Poly S) → is_number e ≡ true → IsValueWith S D values e p
      → p ≡ monomial R (coefficient R p R.origin) R.origin
  number_value e p h is = sym (sym (truncated-zero R R.y_degree _)
      ∙ ap (truncated R R.y_degree 0) (sym (truncated-zero R R.degree p) ∙ number_bound e p h is)
      ∙ value_flat S values flat D e p (number_without_y e h) is) ∙ constant_is R p

  module _ (names : ℕ) where
    mutual
      -- no power of Y above the formal degree
      pub value_powers : (e : Expr) (p : Poly S) → IsValidTree names e → IsValueWith S D values e p
          → HasNoPowerAbove (formal_degree e) p
      value_powers (Number c) p h is = subst (HasNoPowerAbove 0) (sym is)
          (power_bound-truncated R D 0 _ (truncated-monomial R R.y_degree 0 c _ (omega arith)))
      value_powers (Name i) p h is = subst (HasNoPowerAbove 0) (sym is)
          (power_bound-truncated R D 0 (values i) (flat i))
      value_powers MainVariable p h is = subst (HasNoPowerAbove 1) (sym is)
          (power_bound-truncated R D 1 _ (truncated-monomial R R.y_degree 1 1 _ (omega arith)))
      value_powers (Sum' shape summands) p h is = sum_powers summands p h.1 is
      value_powers (Product' shape factors) p h is = product_powers factors p h.0 h.1 is
      value_powers (Power' shape (more_of-Expr base end_of-Expr) exponent) p h (v, is, at) =
          subst (HasNoPowerAbove (exponent * formal_degree base)) (sym at) (power_bound-truncated R D _ _
          (power_bound-power R (formal_degree base) exponent v (value_powers base v h.0 is)))

      sum_powers : {m : _} (row : Row_of-Summand m) (p : Poly S) → AreValidSummands names row
          → IsSumValueWith S D values row p
          → HasNoPowerAbove (greatest_degree row) p
      sum_powers end_of-Summand p h is = subst (HasNoPowerAbove 0) (sym is) (truncated-nothing R R.y_degree 0)
      sum_powers (more_of-Summand minus of rest) p h (v, others, is, are, at) =
          subst (HasNoPowerAbove (max (formal_degree of) (greatest_degree rest))) (sym at)
          (power_bound-sum R (max (formal_degree of) (greatest_degree rest)) _ _
          (bound-signed R.y_degree minus _ v (power_bound-more R (formal_degree of) _ v (omega arith)
          (value_powers of v h.0 is)))
          (power_bound-more R (greatest_degree rest) _ others (omega arith) (sum_powers rest others h.1 are)))

      product_powers : {m : _} (row : Row_of-Factor m) (p : Poly S) → AreFactors row → AreValidFactors names row
          → IsProductValueWith S D values row p → HasNoPowerAbove (product_degree row) p
      product_powers end_of-Factor p ok h is = absurd is
      product_powers (more_of-Factor true of rest) p ok h is = absurd (first_kept of rest ok)
      product_powers (more_of-Factor false of rest) p ok h (v, is, later) =
          later_powers rest (formal_degree of) v p h.1 (value_powers of v h.0 is) later

      later_powers : {m : _} (row : Row_of-Factor m) (K : ℕ) (first p : Poly S) → AreValidFactors names row
          → HasNoPowerAbove K first → IsLaterValueWith S D values first row p
          → HasNoPowerAbove (K + product_degree row) p
      later_powers end_of-Factor K first p ok h is = subst (HasNoPowerAbove (K + 0)) (sym is)
          (power_bound-more R K (K + 0) first (omega arith) h)
      later_powers (more_of-Factor true of rest) K first p ok h (v, next, is, step, later) =
          power_bound-more R (K + product_degree rest) (K + (0 + product_degree rest)) p (omega arith)
          (later_powers rest K next p ok.1 (power_bound-quotient R D K first v next
          (value_flat S values flat D of v step.0 is)
          step.1 h step.2) later)
      later_powers (more_of-Factor false of rest) K first p ok h (v, next, is, step, later) =
          power_bound-more R ((K + formal_degree of) + product_degree rest)
          (K + (formal_degree of + product_degree rest)) p (omega arith)
          (later_powers rest (K + formal_degree of) next p ok.1
          (subst (HasNoPowerAbove (K + formal_degree of)) (sym step) (power_bound-truncated R D _ _
          (power_bound-product R K (formal_degree of) first v h (value_powers of v ok.0 is)))) later)

    top-nothing : (K : ℕ) → HasTop R K 0 (nought R)
    unfolding homogeneous_part
    top-nothing K = kept_terms-zero R _ ∙ sym (monomial-nothing R (R.y K))

    top-signed : (minus : Bool) (K a : ℕ) (v : Poly S) → a < S.modulus → HasTop R K a v
        → HasTop R K (cond minus (S.modulus - a) a) (cond minus (negative R v) v)
    top-signed true K a v lt h = top-negative R K a v (omega arith) h
    top-signed false K a v lt h = h

    top-signed_none : (minus : Bool) (K : ℕ) (v : Poly S) → HasTop R K 0 v
        → HasTop R K 0 (cond minus (negative R v) v)
    top-signed_none true K v h = top-same R K (S.modulus - 0) 0 _ (ap (λ n. n % S.modulus) (omega arith)
        ∙ mod_self S.modulus ∙ sym (mod-eq_of_lt (above_zero R))) (top-negative R K 0 v (omega arith) h)
    top-signed_none false K v h = h

    top-remainder : (K n l : ℕ) (p : Poly S) → l ≡ n % S.modulus → HasTop R K n p → HasTop R K l p
    top-remainder K n l p e h = top-same R K n l p (sym (mod-mod n S.modulus) ∙ ap (λ k. k % S.modulus) (sym e)) h

    -- the share of a divisor inverts its value
    share_inverts : (of : Expr) (v : Poly S) (b : ℕ) → IsValueWith S D values of v → HasInverseShare S of b
        → (coefficient R v R.origin * b) % S.modulus ≡ 1
    share_inverts of v b is (number, w, is', small, inverts) = ap (λ n. (n * b) % S.modulus)
        (sym (coefficient-truncated_constant R 0 v) ∙ ap (λ q. coefficient R q R.origin)
        (same_value S (variable S) (variable_flat S) 0 of (truncated R R.degree 0 v) w own is')) ∙ inverts
      where
        own : IsValue S 0 of (truncated R R.degree 0 v)
        own = other_value S 0 (λ i. ⊥) values (variable S) (λ i none. absurd none) of (truncated R R.degree 0 v)
            (number_names of number) (value-truncated S values 0 D (omega arith) of v is)

    below : (a b K : ℕ) → max a b ≤ K → (a ≡ K → ⊥) → a < K
    below a b K le ne = omega arith

    top-at : (K L a b : ℕ) (p : Poly S) → K ≡ L → a ≡ b → HasTop R K a p → HasTop R L b p
    top-at K L a b p e f h = subst (λ n. HasTop R n b p) e (subst (λ n. HasTop R K n p) f h)

    power_zero : (k e l : ℕ) (v : Poly S) → e ≡ 0 → l ≡ 1 → HasTop R (e * k) l (power R v e)
    power_zero k e l v p q = subst (λ n. HasTop R (n * k) l (power R v n)) (sym p)
        (top-at 0 (0 * k) 1 l (power R v 0) (omega arith) (sym q) (top-one R))

    -- the product of the leading numbers so far and of those to come
    top-times : (K a b others l : ℕ) (p : Poly S) → l ≡ (b * others) % S.modulus → HasTop R K ((a * b) * others) p
        → HasTop R K (a * l) p
    top-times K a b others l p e h = top-same R K ((a * b) * others) (a * l) p (ap (λ n. n % S.modulus) (omega arith)
        ∙ sym (mul-mod_last a (b * others) S.modulus) ∙ ap (λ n. (a * n) % S.modulus) (sym e)) h

    mutual
      -- the coefficient of Y ^ formal_degree is the leading number
      pub value_top : (e : Expr) (l : ℕ) (p : Poly S) → IsValidTree names e → HasLead S e l → IsValueWith S D values e p
          → HasTop R (formal_degree e) l p
      value_top (Number c) l p h lead is = subst (HasTop R 0 l) (sym is) (top-truncated R D 0 l _
          (top-remainder 0 c l _ lead (top-monomial R 0 c)))
      value_top (Name i) l p h lead is = absurd lead
      value_top MainVariable l p h lead is = subst (HasTop R 1 l) (sym is) (top-truncated R D 1 l _
          (subst (λ n. HasTop R 1 n (monomial R 1 (R.y 1))) (sym lead) (top-monomial R 1 1)))
      value_top (Sum' shape summands) l p h lead is =
          sum_top summands (greatest_degree summands) l p h.1 (omega arith) lead is
      value_top (Product' shape factors) l p h lead is = product_top factors l p h.0 h.1 lead is
      value_top (Power' shape (more_of-Expr base end_of-Expr) exponent) l p h lead (v, is, at) =
          subst (HasTop R (exponent * formal_degree base) l) (sym at) (top-truncated R D _ l _
          (elim lead [
            | inl none ↦ power_zero (formal_degree base) exponent l v none.0 none.1
            | inr some ↦ top-remainder (exponent * formal_degree base) (some.1 ^ exponent) l _ some.3
                (top-power R (formal_degree base) some.1 exponent v (value_powers base v h.0 is)
                (value_top base some.1 v h.0 some.2 is))
          ]))

      sum_top : {m : _} (row : Row_of-Summand m) (K l : ℕ) (p : Poly S) → AreValidSummands names row
          → greatest_degree row ≤ K → HasSumLead S K row l → IsSumValueWith S D values row p → HasTop R K l p
      sum_top end_of-Summand K l p h le lead is = subst (HasTop R K l) (sym is)
          (subst (λ n. HasTop R K n (nought R)) (sym lead) (top-nothing K))
      sum_top (more_of-Summand minus of rest) K l p h le lead (v, others, is, are, at) =
          subst (HasTop R K l) (sym at) (match_cases (formal_degree of == K)
          (λ e parts. top-remainder K _ l _ parts.4 (top-sum R K _ parts.1 _ others
          (top-signed minus K parts.0 v (lead_small S of parts.0 parts.2)
          (subst (λ k. HasTop R k parts.0 v) (eqb-true _ _ e) (value_top of parts.0 v h.0 parts.2 is)))
          (sum_top rest K parts.1 others h.1 (omega arith) parts.3 are)))
          (λ e later. subst (λ n. HasTop R K n (sum R (cond minus (negative R v) v) others)) (omega arith)
          (top-sum R K 0 l _ others (top-signed_none minus K v (top-none R (formal_degree of) K v
          (below (formal_degree of) (greatest_degree rest) K le (eqb-false _ _ e)) (value_powers of v h.0 is)))
          (sum_top rest K l others h.1 (omega arith) later are))) lead)

      product_top : {m : _} (row : Row_of-Factor m) (l : ℕ) (p : Poly S) → AreFactors row
          → AreValidFactors names row → HasProductLead S row l → IsProductValueWith S D values row p
          → HasTop R (product_degree row) l p
      product_top end_of-Factor l p ok h lead is = absurd is
      product_top (more_of-Factor true of rest) l p ok h lead is = absurd (first_kept of rest ok)
      product_top (more_of-Factor false of rest) l p ok h (a, others, first, leads, at) (v, is, later) =
          top-remainder (formal_degree of + product_degree rest) (a * others) l p at
          (later_top rest (formal_degree of) a others v p h.1 (value_powers of v h.0 is)
          (value_top of a v h.0 first is) leads later)

      later_top : {m : _} (row : Row_of-Factor m) (K a l : ℕ) (first p : Poly S) → AreValidFactors names row
          → HasNoPowerAbove K first → HasTop R K a first → HasProductLead S row l
          → IsLaterValueWith S D values first row p
          → HasTop R (K + product_degree row) (a * l) p
      later_top end_of-Factor K a l first p ok powers top lead is = subst (HasTop R (K + 0) (a * l)) (sym is)
          (top-at K (K + 0) a (a * l) first (omega arith) (sym (mul-one a) ∙ ap (λ n. a * n) (sym lead)) top)
      later_top (more_of-Factor true of rest) K a l first p ok powers top (b, others, share, leads, at)
          (v, next, is, step, later) = top-times (K + (0 + product_degree rest)) a b others l p at
          (top-at (K + product_degree rest) (K + (0 + product_degree rest)) _ _ p (omega arith) refl
          (later_top rest K (a * b) others next p ok.1
          (power_bound-quotient R D K first v next (value_flat S values flat D of v step.0 is) step.1 powers step.2)
          (top-quotient R D K a b (coefficient R v R.origin) first v next (number_value of v share.0 is)
          (share_inverts of v b is share) top step.2) leads later))
      later_top (more_of-Factor false of rest) K a l first p ok powers top (b, others, lead, leads, at)
          (v, next, is, step, later) = top-times (K + (formal_degree of + product_degree rest)) a b others l p at
          (top-at ((K + formal_degree of) + product_degree rest) (K + (formal_degree of + product_degree rest)) _ _ p
          (omega arith) refl
          (later_top rest (K + formal_degree of) (a * b) others next p ok.1
          (subst (HasNoPowerAbove (K + formal_degree of)) (sym step) (power_bound-truncated R D _ _
          (power_bound-product R K (formal_degree of) first v powers (value_powers of v ok.0 is))))
          (subst (HasTop R (K + formal_degree of) (a * b)) (sym step) (top-truncated R D _ _ _
          (top-product R K (formal_degree of) a b first v powers (value_powers of v ok.0 is) top
          (value_top of b v ok.0 lead is)))) leads later))
