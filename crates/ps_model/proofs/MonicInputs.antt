-- Leads and monic inputs: their truncations, that one is the only one, that it is monic, and what it is at the origin.
use Rattle.std.proofs.Common.{◌≡◌, ℕ, ◌-◌, ◌≤◌, sym, ◌∙◌, ap, subst, arith}
use Rattle.std.specs.Prelude.{◌↔◌}
use Rattle.ps_model.specs.declared.expr.Expr.{Expr}
use Rattle.ps_model.specs.Ring.{Ring}
use Rattle.ps_model.specs.Polynomial.{Polynomial, coefficient, one, product, scaled}
use Rattle.ps_model.specs.Truncation.{truncated, homogeneous_part}
use Rattle.ps_model.specs.Slices.{y_coefficient}
use Rattle.ps_model.specs.Bounds.{HasNoPowerAbove, HasNoDegreeAbove, IsMonic, IsUnit, ExactlyOne}
use Rattle.ps_model.specs.Prepared.{IsQuotient}
use Rattle.ps_model.specs.SeriesRing.{SeriesRing, ring, degree, Poly}
use Rattle.ps_model.specs.Tree.{formal_degree, IsValidTree}
use Rattle.ps_model.specs.Value.{variable, IsValue, HasLead}
use Rattle.ps_model.specs.Lead.{lead_in, IsLead, IsMonicInput}
use Rattle.ps_model.proofs.RingLaws.{product-comm, product-one}
use Rattle.ps_model.proofs.Truncations.{truncated-zero, truncated-product, homogeneous_part-product_of}
use Rattle.ps_model.proofs.Below.{truncated-below}
use Rattle.ps_model.proofs.Degrees.{kept_terms-commute}
use Rattle.ps_model.proofs.Division.{y_power}
use Rattle.ps_model.proofs.Constants.{unit-one}
use Rattle.ps_model.proofs.PowerBounds.{truncated-monomial, power_bound-quotient}
use Rattle.ps_model.proofs.Quotients.{b_origin, one_quotient}
use Rattle.ps_model.proofs.Monic.{monic_from}
use Rattle.ps_model.proofs.Factors.{truncated-again, truncated-lower, constant_flat, homogeneous_part_0-product}
use Rattle.ps_model.proofs.TopTerms.{number-product, scaled_back}
use Rattle.ps_model.proofs.TreeValues.{variable_flat, same_value, value_within, value-truncated}
use Rattle.ps_model.proofs.TreeLeads.{value_powers, value_top}
use Rattle.ps_model.proofs.YCoefficients.{y_coefficient-truncated, y_coefficient-flat, up-y_coefficient}
use Rattle.ps_model.proofs.YCoefficients.{y_coefficient-top}

module _ (R : Ring) where
  parts_swap : (D K : ℕ) (p : Polynomial R) → truncated R R.degree D (homogeneous_part R R.y_degree K p)
      ≡ homogeneous_part R R.y_degree K (truncated R R.degree D p)
  unfolding truncated homogeneous_part
  parts_swap D K p = kept_terms-commute R _ _ p

  -- a factor without Y leaves the powers of Y
  part-flat_product : (K : ℕ) (p l : Polynomial R) → HasNoPowerAbove 0 l → homogeneous_part R R.y_degree K
      (product R p l) ≡ product R (homogeneous_part R R.y_degree K p) l
  part-flat_product K p l flat = ap (homogeneous_part R R.y_degree K) (product-comm R p l
      ∙ ap (λ t. product R t p) (sym own)) ∙ homogeneous_part-product_of R R.y_degree R.y_degree_adds 0 K l p
      (omega arith)
      ∙ (λ i. product R (own i) (homogeneous_part R R.y_degree (no_less i) p)) ∙ product-comm R l _
    where
      own : homogeneous_part R R.y_degree 0 l ≡ l
      own = sym (truncated-zero R R.y_degree l) ∙ flat

      no_less : K - 0 ≡ K
      no_less = omega arith

  -- a quotient by a coefficient of Y^K is Y^K alone there
  quotient_top : (D K : ℕ) (v q : Polynomial R) → HasNoDegreeAbove D v
      → IsUnit R.modulus (coefficient R (y_coefficient R K v) R.origin) → IsQuotient D v (y_coefficient R K v) q
      → homogeneous_part R R.y_degree K q ≡ y_power R K
  quotient_top D K v q within unit is =
      let one = one_quotient R (y_coefficient R K v) (y_coefficient-flat R K v) unit D
      (homogeneous_part R R.y_degree K v)
      top_within in
      one.only (homogeneous_part R R.y_degree K q) of_quotient ∙ sym (one.only (y_power R K) of_power)
    where
      top_within : HasNoDegreeAbove D (homogeneous_part R R.y_degree K v)
      top_within = parts_swap D K v ∙ ap (homogeneous_part R R.y_degree K) within

      of_quotient : IsQuotient D (homogeneous_part R R.y_degree K v) (y_coefficient R K v)
          (homogeneous_part R R.y_degree K q)
      of_quotient = record {
        within = parts_swap D K q ∙ ap (homogeneous_part R R.y_degree K) is.within;
        multiplies_back = ap (truncated R R.degree D) (sym (part-flat_product K q _ (y_coefficient-flat R K v)))
            ∙ parts_swap D K _ ∙ ap (homogeneous_part R R.y_degree K) is.multiplies_back;
      }

      of_power : IsQuotient D (homogeneous_part R R.y_degree K v) (y_coefficient R K v) (y_power R K)
      of_power = record {
        within = truncated-monomial R R.degree D 1 (R.y K) (let e = R.degree-y K in omega arith);
        multiplies_back = ap (truncated R R.degree D) (up-y_coefficient R K v) ∙ top_within;
      }

  -- a quotient at the origin, where what was divided is a multiple of the divisor's constant term
  quotient_origin : (D : ℕ) (a b q w : Polynomial R) → HasNoPowerAbove 0 b → (unit : IsUnit R.modulus
      (coefficient R b R.origin)) → IsQuotient D a b q → truncated R R.degree 0 a
      ≡ scaled R (coefficient R b R.origin) w → truncated R R.degree 0 q ≡ w
  quotient_origin D a b q w flat unit is at = sym (scaled_back R unit.inverse (coefficient R b R.origin) _ unit.inverts)
      ∙ ap (scaled R unit.inverse) (multiple ∙ at)
      ∙ scaled_back R unit.inverse (coefficient R b R.origin) w unit.inverts
    where
      multiple : scaled R (coefficient R b R.origin) (truncated R R.degree 0 q) ≡ truncated R R.degree 0 a
      multiple = sym (number-product R (coefficient R b R.origin) _)
          ∙ (λ i. product R (truncated-zero R R.degree q i) (sym (b_origin R b flat unit D) i))
          ∙ sym (homogeneous_part_0-product R q b) ∙ sym (truncated-zero R R.degree _)
          ∙ sym (truncated-lower R R.degree 0 D _ (omega arith)) ∙ ap (truncated R R.degree 0) is.multiplies_back

module _ (S : SeriesRing) where
  -- the lead's constant term is a unit
  abbrev pub HasUnitLead : Expr → Type 0
  HasUnitLead e = (l : Poly S) → IsLead S 0 e l → IsUnit S.modulus (coefficient (ring S) l (ring S).origin)

  pub lead_flat : (D : ℕ) (e : Expr) (l : Poly S) → IsLead S D e l → HasNoPowerAbove 0 l
  lead_flat D e l (v, is, at) = subst (HasNoPowerAbove 0) (sym at) (y_coefficient-flat (ring S) (formal_degree e) v)

  pub lead_within : (D : ℕ) (e : Expr) (l : Poly S) → IsLead S D e l → HasNoDegreeAbove D l
  lead_within D e l (v, is, at) = subst (HasNoDegreeAbove D) (sym at)
      (sym (y_coefficient-truncated (ring S) D (formal_degree e) v)
      ∙ ap (y_coefficient (ring S) (formal_degree e)) (value_within S (variable S) D e v is))

  pub lead-truncated : (d D : ℕ) (e : Expr) (l : Poly S) → d ≤ D → IsLead S D e l
      → IsLead S d e (truncated (ring S) (degree S) d l)
  lead-truncated d D e l le (v, is, at) = (
    truncated (ring S) (degree S) d v,
    value-truncated S (variable S) d D le e v is,
    ap (truncated (ring S) (degree S) d) at ∙ sym (y_coefficient-truncated (ring S) d (formal_degree e) v),
  )

  pub lead_unit : (D : ℕ) (e : Expr) (l : Poly S) → HasUnitLead e → IsLead S D e l
      → IsUnit S.modulus (coefficient (ring S) l (ring S).origin)
  lead_unit D e l unit is = subst (IsUnit S.modulus) (ap (λ p. coefficient (ring S) p (ring S).origin)
      (truncated-zero (ring S) (degree S) l) ∙ constant_flat (ring S) l)
      (unit (truncated (ring S) (degree S) 0 l) (lead-truncated 0 D e l (omega arith) is))

  pub input-truncated : (d D : ℕ) (e : Expr) (q : Poly S) → d ≤ D → IsMonicInput S D e q
      → IsMonicInput S d e (truncated (ring S) (degree S) d q)
  input-truncated d D e q le is = record {
    value = truncated (ring S) (degree S) d is.value;
    is_value = value-truncated S (variable S) d D le e is.value is.is_value;
    quotient = record {
      within = truncated-again (ring S) (degree S) d q;
      multiplies_back = ap (λ l. truncated (ring S) (degree S) d (product (ring S) (truncated (ring S)
          (degree S) d q) l))
          (y_coefficient-truncated (ring S) d (formal_degree e) is.value)
          ∙ sym (truncated-product (ring S) (degree S) (ring S).degree_adds d q _)
          ∙ sym (truncated-lower (ring S) (degree S) d D _ le)
          ∙ ap (truncated (ring S) (degree S) d) is.quotient.multiplies_back;
    };
  }

  one_of_value : (D : ℕ) (e : Expr) (v : Poly S) → HasUnitLead e → IsValue S D e v
      → ExactlyOne (IsQuotient D v (lead_in S e v))
  one_of_value D e v unit is = one_quotient (ring S) (lead_in S e v) (y_coefficient-flat (ring S) (formal_degree e) v)
      (lead_unit D e _ unit (v, is, λ i. lead_in S e v)) D v (value_within S (variable S) D e v is)

  -- one at most
  pub same_input : (D : ℕ) (e : Expr) (p q : Poly S) → HasUnitLead e → IsMonicInput S D e p → IsMonicInput S D e q
      → p ≡ q
  same_input D e p q unit is is' =
      let one = one_of_value D e is.value unit is.is_value in
      one.only p is.quotient ∙ sym (one.only q (subst (λ v. IsQuotient D v (lead_in S e v) q)
      (same_value S (variable S) (variable_flat S) D e is'.value is.value is'.is_value is.is_value) is'.quotient))

  -- and exactly one, where the tree has a value
  pub one_input : (D : ℕ) (e : Expr) → HasUnitLead e → ExactlyOne (IsValue S D e) → ExactlyOne (IsMonicInput S D e)
  one_input D e unit value =
      let one = one_of_value D e value.one_value unit value.meets in
      let input : IsMonicInput S D e one.one_value =
      record { value = value.one_value; is_value = value.meets; quotient = one.meets } in
      record {
        one_value = one.one_value;
        meets = input;
        only = λ q is. same_input D e q one.one_value unit is input;
      }

  pub input_monic : (names D : ℕ) (e : Expr) (q : Poly S) → IsValidTree names e → HasUnitLead e → IsMonicInput S D e q
      → IsMonic (formal_degree e) q
  input_monic names D e q ok unit is = monic_from (ring S) (formal_degree e) q
      (sym (truncated-below (ring S) (ring S).y_degree (formal_degree e) q) ∙ bound)
      (quotient_top (ring S) D (formal_degree e) is.value q (value_within S (variable S) D e is.value is.is_value)
      is_unit is.quotient)
    where
      is_unit : IsUnit S.modulus (coefficient (ring S) (lead_in S e is.value) (ring S).origin)
      is_unit = lead_unit D e _ unit (is.value, is.is_value, λ i. lead_in S e is.value)

      bound : HasNoPowerAbove (formal_degree e) q
      bound = power_bound-quotient (ring S) D (formal_degree e) is.value (lead_in S e is.value) q
          (y_coefficient-flat (ring S) (formal_degree e) is.value) is_unit
          (value_powers S (variable S) (variable_flat S) D names e is.value ok is.is_value) is.quotient

  -- at the origin, where the value is a multiple of the lead's constant term
  pub input_origin : (D : ℕ) (e : Expr) (q w : Poly S) → HasUnitLead e → (is : IsMonicInput S D e q)
      → truncated (ring S) (degree S) 0 is.value
      ≡ scaled (ring S) (coefficient (ring S) (lead_in S e is.value) (ring S).origin) w
      → truncated (ring S) (degree S) 0 q ≡ w
  input_origin D e q w unit is at = quotient_origin (ring S) D is.value (lead_in S e is.value) q w
      (y_coefficient-flat (ring S) (formal_degree e) is.value)
      (lead_unit D e _ unit (is.value, is.is_value, λ i. lead_in S e is.value)) is.quotient at

  -- where the leading number is known to be 1
  module _ (names : ℕ) (e : Expr) (ok : IsValidTree names e) (known : HasLead S e 1) where
    lead_one : (D : ℕ) (v : Poly S) → IsValue S D e v → lead_in S e v ≡ one (ring S)
    unfolding one
    lead_one D v is = y_coefficient-top (ring S) (formal_degree e) 1 v
        (value_top S (variable S) (variable_flat S) D names e 1 v ok known is)

    pub known_unit : HasUnitLead e
    known_unit l (v, is, at) = subst (λ l. IsUnit S.modulus (coefficient (ring S) l (ring S).origin))
        (sym (at ∙ lead_one 0 v is)) (unit-one (ring S))

    back : (D : ℕ) (v q : Poly S) → IsValue S D e v → HasNoDegreeAbove D q
        → truncated (ring S) (degree S) D (product (ring S) q (lead_in S e v)) ≡ q
    back D v q is within = ap (λ l. truncated (ring S) (degree S) D (product (ring S) q l)) (lead_one D v is)
        ∙ ap (truncated (ring S) (degree S) D) (product-one (ring S) q) ∙ within

    pub known_input : (D : ℕ) (q : Poly S) → IsMonicInput S D e q ↔ IsValue S D e q
    known_input D q = (
      λ is. subst (IsValue S D e) (sym (sym (back D is.value q is.is_value is.quotient.within)
          ∙ is.quotient.multiplies_back)) is.is_value,
      λ is. record {
        value = q;
        is_value = is;
        quotient = record {
          within = value_within S (variable S) D e q is;
          multiplies_back = back D q q is (value_within S (variable S) D e q is);
        };
      },
    )
