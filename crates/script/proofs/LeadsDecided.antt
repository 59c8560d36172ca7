-- Whether a tree's leading number is known by its form: it is one number at most.
use Rattle.std.proofs.Common.{◌≡◌, ℕ, ◌-◌, ◌*◌, ◌%◌, ◌^◌, ◌<◌, ◌⊎◌, inl, inr, Bool, true, false, cond}
use Rattle.std.proofs.Common.{refl, sym, ◌∙◌, ap, subst, arith}
use Rattle.std.specs.Prelude.{◌+◌, ◌==◌, MatchBool}
use Rattle.std.proofs.lemmas.Bool.Decides.{eqb_tells}
use Rattle.ps_model.specs.declared.expr.Expr.{Expr, Number, Name, MainVariable, Sum', Product', Power'}
use Rattle.ps_model.specs.declared.expr.Expr.{end_of-Expr, more_of-Expr}
use Rattle.ps_model.specs.declared.expr.Expr.{Row_of-Summand, end_of-Summand, more_of-Summand}
use Rattle.ps_model.specs.declared.expr.Expr.{Row_of-Factor, end_of-Factor, more_of-Factor}
use Rattle.ps_model.specs.Ring.{Ring}
use Rattle.ps_model.specs.Bounds.{IsUnit}
use Rattle.ps_model.specs.Lead.{IsLeadShown}
use Rattle.ps_model.specs.Polynomial.{coefficient}
use Rattle.ps_model.specs.Props.{IsUnit-IsProp}
use Rattle.ps_model.specs.SeriesRing.{SeriesRing, ring, Poly}
use Rattle.ps_model.specs.Tree.{formal_degree, greatest_degree, is_number}
use Rattle.ps_model.specs.Value.{variable, IsValue, HasInverseShare, HasLead, HasSumLead, HasProductLead}
use Rattle.ps_model.proofs.TreeValues.{variable_flat, same_value}
use Rattle.ps_model.proofs.UnitsDecided.{unit_decided}
use Rattle.script.proofs.ValuesDecided.{bool_decided, not_both, value_decided}

match_two : {P Q A B X : Type 0} (b : Bool) → (P → A → X) → (Q → B → X) → MatchBool b P Q → MatchBool b A B → X
match_two true f g h j = f h j
match_two false f g h j = g h j

-- an exponent that is 0 and isn't
not_some : (e : ℕ) → e ≡ 0 → 0 < e → ⊥
not_some e none some = omega arith

positive : (e : ℕ) → (e ≡ 0 → ⊥) → 0 < e
positive e h = omega arith

abbrev pub Known : (ℕ → Type 0) → Type 0
Known P = ((l : ℕ) × P l) ⊎ ((l : ℕ) → P l → ⊥)

matched : (P Q : ℕ → Type 0) (b : Bool) → Known P → Known Q → Known (λ l. MatchBool b (P l) (Q l))
matched P Q true p q = p
matched P Q false p q = q

module _ (S : SeriesRing) where
  abbrev R : Ring
  R = ring S

  same : (of : Expr) (v w : Poly S) → IsValue S 0 of v → IsValue S 0 of w → v ≡ w
  same of v w is is' = same_value S (variable S) (variable_flat S) 0 of v w is is'

  -- the share of a divisor
  share_decided : (of : Expr) → Known (HasInverseShare S of)
  share_decided of = elim (bool_decided (is_number of)) [
    | inr other ↦ inr (λ l (number, v, is, small, inverts). not_both (sym number ∙ other))
    | inl number ↦ elim (value_decided S (variable S) (variable_flat S) 0 of) [
      | inr none ↦ inr (λ l (number, v, is, small, inverts). none v is)
      | inl v ↦ elim (unit_decided S.modulus (coefficient R v.0 R.origin)) [
        | inl unit ↦ inl (unit.inverse, (number, v.0, v.1, unit.is_residue, unit.inverts))
        | inr other ↦ inr (λ l (number, w, is, small, inverts). other (record {
          inverse = l;
          is_residue = small;
          inverts = subst (λ q. (coefficient R q R.origin * l) % S.modulus ≡ 1) (same of w v.0 is v.1) inverts;
        }))
      ]
    ]
  ]

  share_once : (of : Expr) (k l : ℕ) → HasInverseShare S of k → HasInverseShare S of l → k ≡ l
  share_once of k l (number, v, is, small, inverts) (number', w, is', small', inverts') =
      ap (λ (u : IsUnit S.modulus (coefficient R v R.origin)). u.inverse)
      (IsUnit-IsProp S.modulus (coefficient R v R.origin)
      (record { inverse = k; is_residue = small; inverts = inverts })
      (record {
        inverse = l;
        is_residue = small';
        inverts = subst (λ q. (coefficient R q R.origin * l) % S.modulus ≡ 1) (same of w v is' is) inverts';
      }))

  abbrev HasPower : Expr → ℕ → ℕ → Type 0
  HasPower base exponent l =
      ((exponent ≡ 0) × (l ≡ 1)) ⊎ ((0 < exponent) × (b : ℕ) × HasLead S base b × (l ≡ b ^ exponent % S.modulus))

  power_decided : (base : Expr) (exponent : ℕ) → Known (HasLead S base) → Known (HasPower base exponent)
  power_decided base exponent known = elim (eqb_tells exponent 0) [
    | inl none ↦ inl (1, inl (none.1, refl))
    | inr some ↦ elim known [
      | inl b ↦ inl (b.0 ^ exponent % S.modulus, inr (positive exponent some.1, b.0, b.1, refl))
      | inr never ↦ inr (λ l h. elim h [
        | inl none ↦ absurd (some.1 none.0)
        | inr power ↦ never power.1 power.2
      ])
    ]
  ]

  power_once : (base : Expr) (exponent k l : ℕ) → ((a b : ℕ) → HasLead S base a → HasLead S base b → a ≡ b)
      → HasPower base exponent k → HasPower base exponent l → k ≡ l
  power_once base exponent k l once (inl h) (inl j) = h.1 ∙ sym j.1
  power_once base exponent k l once (inl h) (inr j) = absurd (not_some exponent h.0 j.0)
  power_once base exponent k l once (inr h) (inl j) = absurd (not_some exponent j.0 h.0)
  power_once base exponent k l once (inr (some, a, is, at)) (inr (some', b, is', at')) =
      at ∙ ap (λ n. n ^ exponent % S.modulus) (once a b is is') ∙ sym at'

  mutual
    -- whether the leading number is known
    pub lead_decided : (e : Expr) → Known (HasLead S e)
    lead_decided (Number c) = inl (c % S.modulus, refl)
    lead_decided (Name i) = inr (λ l h. h)
    lead_decided MainVariable = inl (1, refl)
    lead_decided (Sum' shape summands) = sum_lead_decided (greatest_degree summands) summands
    lead_decided (Product' shape factors) = product_lead_decided factors
    lead_decided (Power' shape (more_of-Expr base end_of-Expr) exponent) =
        power_decided base exponent (lead_decided base)

    sum_lead_decided : {m : _} (d : ℕ) (row : Row_of-Summand m) → Known (HasSumLead S d row)
    sum_lead_decided d end_of-Summand = inl (0, refl)
    sum_lead_decided d (more_of-Summand minus of rest) = matched
        (λ l. (a : ℕ) × (others : ℕ) × HasLead S of a × HasSumLead S d rest others
        × (l ≡ (cond minus (S.modulus - a) a + others) % S.modulus))
        (HasSumLead S d rest) (formal_degree of == d) (elim (lead_decided of) [
          | inr none ↦ inr (λ l (a, others, is, are, at). none a is)
          | inl a ↦ elim (sum_lead_decided d rest) [
            | inr none ↦ inr (λ l (a, others, is, are, at). none others are)
            | inl others ↦ inl (
              (cond minus (S.modulus - a.0) a.0 + others.0) % S.modulus,
              (a.0, others.0, a.1, others.1, refl),
            )
          ]
        ]) (sum_lead_decided d rest)

    product_lead_decided : {m : _} (row : Row_of-Factor m) → Known (HasProductLead S row)
    product_lead_decided end_of-Factor = inl (1, refl)
    product_lead_decided (more_of-Factor divide of rest) =
        elim (matched (HasInverseShare S of) (HasLead S of) divide (share_decided of) (lead_decided of)) [
          | inr none ↦ inr (λ l (a, others, is, are, at). none a is)
          | inl a ↦ elim (product_lead_decided rest) [
            | inr none ↦ inr (λ l (a, others, is, are, at). none others are)
            | inl others ↦ inl ((a.0 * others.0) % S.modulus, (a.0, others.0, a.1, others.1, refl))
          ]
        ]

  mutual
    -- it is one number at most
    pub lead_once : (e : Expr) (k l : ℕ) → HasLead S e k → HasLead S e l → k ≡ l
    lead_once (Number c) k l h j = h ∙ sym j
    lead_once (Name i) k l h j = absurd h
    lead_once MainVariable k l h j = h ∙ sym j
    lead_once (Sum' shape summands) k l h j = sum_lead_once (greatest_degree summands) summands k l h j
    lead_once (Product' shape factors) k l h j = product_lead_once factors k l h j
    lead_once (Power' shape (more_of-Expr base end_of-Expr) exponent) k l h j =
        power_once base exponent k l (λ a b is is'. lead_once base a b is is') h j

    sum_lead_once : {m : _} (d : ℕ) (row : Row_of-Summand m) (k l : ℕ) → HasSumLead S d row k → HasSumLead S d row l
        → k ≡ l
    sum_lead_once d end_of-Summand k l h j = h ∙ sym j
    sum_lead_once d (more_of-Summand minus of rest) k l h j = match_two (formal_degree of == d)
        (λ (a, others, is, are, at) (b, others', is', are', at'). at
        ∙ (λ i. let first = lead_once of a b is is' i in
        (cond minus (S.modulus - first) first + sum_lead_once d rest others others' are are' i) % S.modulus)
        ∙ sym at')
        (λ x z. sum_lead_once d rest k l x z) h j

    product_lead_once : {m : _} (row : Row_of-Factor m) (k l : ℕ) → HasProductLead S row k → HasProductLead S row l
        → k ≡ l
    product_lead_once end_of-Factor k l h j = h ∙ sym j
    product_lead_once (more_of-Factor divide of rest) k l (a, others, is, are, at) (b, others', is', are', at') =
        at ∙ (λ i. (match_two divide (λ x z. share_once of a b x z) (λ x z. lead_once of a b x z) is is' i
        * product_lead_once rest others others' are are' i) % S.modulus) ∙ sym at'

  -- whether it is this number
  pub lead_is_decided : (e : Expr) (l : ℕ) → HasLead S e l ⊎ (HasLead S e l → ⊥)
  lead_is_decided e l = elim (lead_decided e) [
    | inr none ↦ inr (none l)
    | inl known ↦ elim (eqb_tells known.0 l) [
      | inl same ↦ inl (subst (HasLead S e) same.1 known.1)
      | inr other ↦ inr (λ is. other.1 (lead_once e known.0 l known.1 is))
    ]
  ]

  -- a lead that can't be shown isn't
  pub lead_stable : (e : Expr) → (IsLeadShown S e → ⊥) → HasLead S e 1
  lead_stable e h = elim (lead_is_decided e 1) [
    | inl is ↦ is
    | inr never ↦ absurd (h never)
  ]
