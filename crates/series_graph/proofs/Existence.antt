-- Each node of a graph means exactly one series up to each degree.
use Rattle.std.proofs.Common.{◌≡◌, ℕ, zero, suc, ◌<◌, ◌≤◌, cond, List, length, get_or, inl, inr}
use Rattle.std.proofs.Common.{refl, sym, ◌∙◌, ap, subst, arith}
use Rattle.std.specs.Prelude.{◌==◌}
use Rattle.std.proofs.lemmas.Bool.{cases_lt, eq-eqb, ne_eqb}
use Rattle.ps_model.specs.Bounds.{ExactlyOne, IsUnit}
use Rattle.ps_model.specs.Keys.{y_key}
use Rattle.ps_model.specs.Polynomial.{monomial, zero as nought}
use Rattle.ps_model.specs.Prepared.{IsQuotient}
use Rattle.ps_model.specs.SeriesRing.{SeriesRing, ring as ring_of, degree, Poly}
use Rattle.ps_model.specs.Truncation.{truncated}
use Rattle.ps_model.specs.Value.{variable}
use Rattle.ps_model.proofs.Quotients.{one_quotient}
use Rattle.parts.specs.Rings.{modulus_of}
use Rattle.parts.specs.Series.{series}
use Rattle.parts.specs.declared.rings.Ring.{Ring}
use Rattle.parts.proofs.Polynomials.{modulus_is}
use Rattle.series_graph.specs.Formula.{Formula, Number, Variable, Combination, Dot, Quotient, EachNamed}
use Rattle.series_graph.specs.GraphValue.{IsLawful}
use Rattle.series_graph.specs.Meaning.{formula_at, combination, products, IsMeaning, AreMeanings, Means}
use Rattle.series_graph.proofs.Meanings.{IsSeries, AreSound, AreFirst, series_first}
use Rattle.series_graph.proofs.Named.{each-weaker, names_earlier, meaning-same}

module _ (ring : Ring) (constants : List ℕ) (D : ℕ) (f : ℕ → Poly (series ring)) where
  quotient_of : (ca cb : ℕ) (a b : Poly (series ring)) → IsUnit (modulus_of ring) cb → IsSeries D ca a
      → IsSeries D cb b → ExactlyOne (IsQuotient D a b)
  quotient_of ca cb a b unit of_a of_b = one_quotient (ring_of (series ring)) b of_b.flat
      (subst (IsUnit (series ring).modulus) (sym of_b.constant)
      (subst (λ m. IsUnit m cb) (sym (modulus_is ring)) unit)) D a of_a.within

  -- a formula has one meaning, from those of the nodes that it names
  pub one_meaning : (i : ℕ) (formula : Formula) → IsLawful ring constants i formula
      → EachNamed (λ j. IsSeries D (get_or constants j 0) (f j)) formula
      → ExactlyOne (IsMeaning (series ring) D f formula)
  one_meaning i (Number c) lawful each = record {
    one_value = truncated (ring_of (series ring)) (degree (series ring)) D
        (monomial (ring_of (series ring)) c (y_key (series ring).variables 0));
    meets = refl;
    only = λ p is. is;
  }
  one_meaning i (Variable v) lawful each = record {
    one_value = truncated (ring_of (series ring)) (degree (series ring)) D (variable (series ring) v);
    meets = refl;
    only = λ p is. is;
  }
  one_meaning i (Combination of) lawful each = record {
    one_value = combination (series ring) f of;
    meets = refl;
    only = λ p is. is;
  }
  one_meaning i (Dot of) lawful each = record {
    one_value = truncated (ring_of (series ring)) (degree (series ring)) D (products (series ring) f of);
    meets = refl;
    only = λ p is. is;
  }
  one_meaning i (Quotient a b) lawful each = quotient_of _ _ _ _ lawful.2 each.0 each.1

-- what f gives, and p at the place n
abbrev with_more : {A : Type 0} → (ℕ → A) → ℕ → A → ℕ → A
with_more f n p j = cond (j == n) p (f j)

-- meanings of the first n nodes, and one more
module _ (S : SeriesRing) (D n : ℕ) (formulas : List Formula) (f : ℕ → Poly S) (p : Poly S) where
  more_end : with_more f n p n ≡ p
  more_end = ap (λ b. cond b p (f n)) (eq-eqb n n refl)

  more_earlier : (j : ℕ) → j < n → with_more f n p j ≡ f j
  more_earlier j lt = ap (λ b. cond b p (f j)) (ne_eqb j n (λ e. omega arith))

  more_at : (i : ℕ) (x : Poly S) → i ≤ n → EachNamed (λ j. j < i) (formula_at formulas i)
      → with_more f n p i ≡ x → IsMeaning S D f (formula_at formulas i) x
      → IsMeaning S D (with_more f n p) (formula_at formulas i) (with_more f n p i)
  more_at i x le named at is = subst (IsMeaning S D (with_more f n p) (formula_at formulas i)) (sym at)
      (meaning-same S f (with_more f n p) D (formula_at formulas i) x
      (each-weaker (λ j. j < i) (λ j. f j ≡ with_more f n p j) (λ j lt. sym (more_earlier j (omega arith)))
      (formula_at formulas i) named) is)

  more_meanings : ((i : ℕ) → i ≤ n → EachNamed (λ j. j < i) (formula_at formulas i))
      → ((i : ℕ) → i < n → IsMeaning S D f (formula_at formulas i) (f i))
      → IsMeaning S D f (formula_at formulas n) p → (i : ℕ) → i < suc n
      → IsMeaning S D (with_more f n p) (formula_at formulas i) (with_more f n p i)
  more_meanings named are is i lt = elim (cases_lt i n) as
      (λ _. IsMeaning S D (with_more f n p) (formula_at formulas i) (with_more f n p i)) [
        | inl low ↦ more_at i (f i) (omega arith) (named i (omega arith)) (more_earlier i low) (are i low)
        | inr high ↦
            let end : n ≡ i = omega arith in
            subst (λ k. IsMeaning S D (with_more f n p) (formula_at formulas k) (with_more f n p k)) end
            (more_at n p (omega arith) (named n (omega arith)) more_end is)
      ]

module _ (ring : Ring) (constants : List ℕ) (formulas : List Formula) (sound : AreSound ring constants formulas)
    (D : ℕ) where
  named_at : (i : ℕ) → i < length formulas → EachNamed (λ j. j < i) (formula_at formulas i)
  named_at i lt = names_earlier ring constants i (formula_at formulas i) (sound.lawful i lt)

  one_at : (k : ℕ) → k ≤ length formulas → (f : ℕ → Poly (series ring))
      → AreFirst ring constants formulas sound D k f → (i : ℕ) → i ≤ k → i < length formulas
      → ExactlyOne (IsMeaning (series ring) D f (formula_at formulas i))
  one_at k le f are i below inside = one_meaning ring constants D f i (formula_at formulas i) (sound.lawful i inside)
      (each-weaker (λ j. j < i) (λ j. IsSeries D (get_or constants j 0) (f j))
      (λ j lt. series_first ring constants formulas sound D k le f are j (omega arith)) (formula_at formulas i)
      (named_at i inside))

  built : (n : ℕ) → n ≤ length formulas
      → (f : ℕ → Poly (series ring)) × AreFirst ring constants formulas sound D n f
  built zero le = (λ j. nought (ring_of (series ring)), λ i lt. absurd (omega arith))
  built (suc n) le =
      let before = built n (omega arith) in
      let one = one_at n (omega arith) before.0 before.1 n (omega arith) (omega arith) in (
        with_more before.0 n one.one_value,
        more_meanings (series ring) D n formulas before.0 one.one_value (λ i below. named_at i (omega arith)) before.1
            one.meets,
      )

  -- the meanings of all nodes
  pub meanings_exist : (f : ℕ → Poly (series ring)) × AreMeanings (series ring) D formulas f
  meanings_exist = built (length formulas) (omega arith)

  module _ (f g : ℕ → Poly (series ring)) (are : AreMeanings (series ring) D formulas f)
      (are' : AreMeanings (series ring) D formulas g) where
    same_below : (n i : ℕ) → i < n → i < length formulas → f i ≡ g i
    same_below zero i lt inside = absurd (omega arith)
    same_below (suc n) i lt inside =
        let one = one_at (length formulas) (omega arith) g are' i (omega arith) inside in
        one.only (f i) (meaning-same (series ring) f g D (formula_at formulas i) (f i)
        (each-weaker (λ j. j < i) (λ j. f j ≡ g j) (λ j earlier. same_below n j (omega arith) (omega arith))
        (formula_at formulas i) (named_at i inside)) (are i inside)) ∙ sym (one.only (g i) (are' i inside))

    -- and there are no others
    pub same_meanings : (i : ℕ) → i < length formulas → f i ≡ g i
    same_meanings i inside = same_below (suc i) i (omega arith) inside

  -- exactly one polynomial is what a node means up to the degree
  pub means_one : (i : ℕ) → i < length formulas → ExactlyOne (Means (series ring) D formulas i)
  means_one i inside = record {
    one_value = meanings_exist.0 i;
    meets = (meanings_exist.0, meanings_exist.1, refl);
    only = λ p (f, are, is). is ∙ same_meanings f meanings_exist.0 are meanings_exist.1 i inside;
  }

  pub same_means : (i : ℕ) (p q : Poly (series ring)) → i < length formulas → Means (series ring) D formulas i p
      → Means (series ring) D formulas i q → p ≡ q
  same_means i p q inside (f, are, is) (g, are', is') = is ∙ same_meanings f g are are' i inside ∙ sym is'
