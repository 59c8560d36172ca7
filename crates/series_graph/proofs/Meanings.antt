-- What nodes mean has no Y and no entry above the degree, and the constant term that the graph keeps.
use Rattle.std.proofs.Common.{◌≡◌, ℕ, zero, suc, ◌+◌, ◌*◌, ◌%◌, ◌<◌, ◌≤◌, List, [], ◌∷◌, length, get_or, sym}
use Rattle.std.proofs.Common.{◌∙◌, ap, subst, arith}
use Rattle.std.specs.List.{All}
use Rattle.std.proofs.Math.Nat.{mod-eq_of_lt, add-mod}
use Rattle.std.proofs.lemmas.List.Elements.{All-head, All-tail}
use Rattle.ps_model.specs.Bounds.{HasNoPowerAbove, HasNoDegreeAbove, IsUnit}
use Rattle.ps_model.specs.Job.{series_ring}
use Rattle.ps_model.specs.Keys.{y_key}
use Rattle.ps_model.specs.Notation.{constant_term}
use Rattle.ps_model.specs.Polynomial.{monomial, sum, scaled, product}
use Rattle.ps_model.specs.Prepared.{IsQuotient}
use Rattle.ps_model.specs.SeriesRing.{SeriesRing, ring as ring_of, degree, Poly}
use Rattle.ps_model.specs.Truncation.{truncated}
use Rattle.ps_model.specs.Value.{variable}
use Rattle.ps_model.proofs.Coefficients.{above_zero, small}
use Rattle.ps_model.proofs.Constants.{constant-product}
use Rattle.ps_model.proofs.Factors.{truncated-again}
use Rattle.ps_model.proofs.KeptTerms.{kept_terms-scaled}
use Rattle.ps_model.proofs.Origin.{coefficient-zero, coefficient-truncated_constant}
use Rattle.ps_model.proofs.PowerBounds.{truncated-nothing, truncated-monomial, power_bound-truncated, power_bound-sum}
use Rattle.ps_model.proofs.PowerBounds.{power_bound-product, power_bound-quotient}
use Rattle.ps_model.proofs.TreeValues.{variable_flat}
use Rattle.ps_model.proofs.Truncations.{truncated-sum}
use Rattle.ps_model.specs.Ring.{Ring as AnyRing}
use Rattle.ps_model.specs.Polynomial.{Polynomial}
use Rattle.parts.specs.Rings.{modulus_of, variables_of}
use Rattle.parts.specs.Series.{series}
use Rattle.parts.specs.declared.rings.Ring.{Ring}
use Rattle.parts.proofs.Polynomials.{modulus_is}
use Rattle.series_graph.specs.Formula.{place_of, Formula, Number, Variable, Combination, Dot, Quotient, EachNamed}
use Rattle.series_graph.specs.GraphValue.{GraphValue, combined, multiplied, IsConstant, IsLawful, IsGraph}
use Rattle.series_graph.specs.Meaning.{formula_at, combination, products, IsMeaning, AreMeanings, Means}
use Rattle.series_graph.specs.declared.node.NodeId.{NodeId}
use Rattle.series_graph.proofs.ConstantTerms.{constant-monomial, constant-sum, constant-scaled, constant-variable}
use Rattle.series_graph.proofs.ConstantTerms.{same_residue}
use Rattle.series_graph.proofs.Named.{each-weaker, names_earlier}

-- p has no Y, no entry of degree above D, and the constant term c
module _ {R : AnyRing} where
  pub record IsSeries (D c : ℕ) (p : Polynomial R) : Type 0 where
    pub flat : HasNoPowerAbove 0 p
    pub within : HasNoDegreeAbove D p
    pub constant : constant_term p ≡ c

module _ (R : AnyRing) (d : R.Key → ℕ) where
  bound-scaled : (K c : ℕ) (p : Polynomial R) → truncated R d K p ≡ p → truncated R d K (scaled R c p) ≡ scaled R c p
  unfolding truncated
  bound-scaled K c p h = kept_terms-scaled R _ c p ∙ ap (scaled R c) h

module _ (S : SeriesRing) where
  -- the sum of two residues' remainders
  sum_of_residues : (m a b : ℕ) → (a % m + b % m) % m ≡ (a + b) % m
  sum_of_residues m a b = sym (add-mod a b m)

  flat-product : (p q : Poly S) → HasNoPowerAbove 0 p → HasNoPowerAbove 0 q
      → HasNoPowerAbove 0 (product (ring_of S) p q)
  flat-product p q hp hq = power_bound-product (ring_of S) 0 0 p q hp hq

  module _ (constants : List ℕ) (f : ℕ → Poly S) (D : ℕ) where
    -- each node that is named by the place j means a series with its constant term
    abbrev pub IsSeriesAt : ℕ → Type 0
    IsSeriesAt j = IsSeries D (get_or constants j 0) (f j)

    combination_is : (of : List (ℕ × NodeId)) → All (λ t. IsSeriesAt (place_of t.1)) of
        → IsSeries D (combined constants of % S.modulus) (combination S f of)
    combination_is [] each = record {
      flat = truncated-nothing (ring_of S) (ring_of S).y_degree 0;
      within = truncated-nothing (ring_of S) (degree S) D;
      constant = coefficient-zero (ring_of S) _ ∙ sym (mod-eq_of_lt (above_zero (ring_of S)));
    }
    combination_is (t ∷ ts) each =
        let first = All-head (λ t. IsSeriesAt (place_of t.1)) t ts each in
        let rest = combination_is ts (All-tail (λ t. IsSeriesAt (place_of t.1)) t ts each) in
        record {
          flat = power_bound-sum (ring_of S) 0 _ _
              (bound-scaled (ring_of S) (ring_of S).y_degree 0 t.0 _ first.flat) rest.flat;
          within = truncated-sum (ring_of S) (degree S) D _ _ ∙ (λ i. sum (ring_of S)
              (bound-scaled (ring_of S) (degree S) D t.0 _ first.within i) (rest.within i));
          constant = constant-sum (ring_of S) _ _
              ∙ (λ i. ((constant-scaled (ring_of S) t.0 (f (place_of t.1))
              ∙ ap (λ n. (t.0 * n) % S.modulus) first.constant) i + rest.constant i) % S.modulus)
              ∙ sum_of_residues S.modulus _ _;
        }

    -- of products nothing is said of the degree
    products_flat : (of : List (NodeId × NodeId)) → All (λ t. IsSeriesAt (place_of t.0) × IsSeriesAt (place_of t.1)) of
        → HasNoPowerAbove 0 (products S f of)
    products_flat [] each = truncated-nothing (ring_of S) (ring_of S).y_degree 0
    products_flat (t ∷ ts) each =
        let first = All-head (λ t. IsSeriesAt (place_of t.0) × IsSeriesAt (place_of t.1)) t ts each in
        power_bound-sum (ring_of S) 0 _ _ (flat-product _ _ first.0.flat first.1.flat)
        (products_flat ts (All-tail (λ t. IsSeriesAt (place_of t.0) × IsSeriesAt (place_of t.1)) t ts each))

    products_constant : (of : List (NodeId × NodeId))
        → All (λ t. IsSeriesAt (place_of t.0) × IsSeriesAt (place_of t.1)) of
        → constant_term (products S f of) ≡ multiplied constants of % S.modulus
    products_constant [] each = coefficient-zero (ring_of S) _ ∙ sym (mod-eq_of_lt (above_zero (ring_of S)))
    products_constant (t ∷ ts) each =
        let first = All-head (λ t. IsSeriesAt (place_of t.0) × IsSeriesAt (place_of t.1)) t ts each in
        constant-sum (ring_of S) _ _
        ∙ (λ i. ((constant-product (ring_of S) (f (place_of t.0)) (f (place_of t.1))
        ∙ (λ j. (first.0.constant j * first.1.constant j) % S.modulus)) i
        + products_constant ts (All-tail (λ t. IsSeriesAt (place_of t.0) × IsSeriesAt (place_of t.1)) t ts each) i)
        % S.modulus)
        ∙ sum_of_residues S.modulus _ _

  -- what is cut at D
  cut_is : (D c : ℕ) (p q : Poly S) → p ≡ truncated (ring_of S) (degree S) D q → HasNoPowerAbove 0 q
      → constant_term q ≡ c → IsSeries D c p
  cut_is D c p q is flat constant = subst (IsSeries D c) (sym is) (record {
    flat = power_bound-truncated (ring_of S) D 0 q flat;
    within = truncated-again (ring_of S) (degree S) D q;
    constant = coefficient-truncated_constant (ring_of S) D q ∙ constant;
  })

  number_is : (D c x : ℕ) (p : Poly S) → c < S.modulus → x ≡ c
      → p ≡ truncated (ring_of S) (degree S) D (monomial (ring_of S) c (y_key S.variables 0)) → IsSeries D x p
  number_is D c x p lt same is = cut_is D x p _ is
      (truncated-monomial (ring_of S) (ring_of S).y_degree 0 c _ (omega arith))
      (constant-monomial (ring_of S) c lt ∙ sym same)

  variable_is : (D i x : ℕ) (p : Poly S) → i < S.variables → x ≡ 0
      → p ≡ truncated (ring_of S) (degree S) D (variable S i) → IsSeries D x p
  variable_is D i x p lt same is = cut_is D x p _ is (variable_flat S i) (constant-variable S i lt ∙ sym same)

  quotient_is : (D x ca cb : ℕ) (a b q : Poly S) → IsSeries D ca a → IsSeries D cb b → IsUnit S.modulus cb
      → x < S.modulus → (x * cb) % S.modulus ≡ ca → IsQuotient D a b q → IsSeries D x q
  quotient_is D x ca cb a b q of_a of_b unit lt multiplied is = record {
    flat = power_bound-quotient (ring_of S) D 0 a b q of_b.flat
        (subst (IsUnit S.modulus) (sym of_b.constant) unit) of_a.flat is;
    within = is.within;
    constant = same_residue S.modulus _ x cb unit.inverse (small (ring_of S) q _) lt unit.inverts
        (ap (λ n. (constant_term q * n) % S.modulus) (sym of_b.constant) ∙ sym (constant-product (ring_of S) q b)
        ∙ sym (coefficient-truncated_constant (ring_of S) D _) ∙ ap (λ p. constant_term p) is.multiplies_back
        ∙ of_a.constant ∙ sym multiplied);
  }

-- a formula's meaning, from those of the nodes that it names
module _ (ring : Ring) (constants : List ℕ) (D : ℕ) (f : ℕ → Poly (series ring)) where
  names_variable : (v : ℕ) → v < variables_of ring → v < (series ring).variables
  unfolding series_ring
  names_variable v lt = let few = ring.few in omega arith

  in_series : (x n : ℕ) → x ≡ n % modulus_of ring → n % (series ring).modulus ≡ x
  in_series x n is = ap (λ m. n % m) (modulus_is ring) ∙ sym is

  pub meaning_is : (i c : ℕ) (formula : Formula) (p : Poly (series ring)) → IsLawful ring constants i formula
      → IsConstant (modulus_of ring) constants formula c
      → EachNamed (λ j. IsSeries D (get_or constants j 0) (f j)) formula → IsMeaning (series ring) D f formula p
      → IsSeries D c p
  meaning_is i c (Number n) p lawful constant each is =
      number_is (series ring) D n c p (let same = modulus_is ring in omega arith) constant is
  meaning_is i c (Variable v) p lawful constant each is =
      variable_is (series ring) D v c p (names_variable v lawful) constant is
  meaning_is i c (Combination of) p lawful constant each is = subst (IsSeries D c) (sym is)
      (subst (λ n. IsSeries D n (combination (series ring) f of)) (in_series c _ constant)
      (combination_is (series ring) constants f D of each))
  meaning_is i c (Dot of) p lawful constant each is = cut_is (series ring) D c p _ is
      (products_flat (series ring) constants f D of each)
      (products_constant (series ring) constants f D of each ∙ in_series c _ constant)
  meaning_is i c (Quotient a b) p lawful constant each is = quotient_is (series ring) D c _ _ _ _ p each.0 each.1
      (subst (λ m. IsUnit m (get_or constants (place_of b) 0)) (sym (modulus_is ring)) lawful.2)
      (let same = modulus_is ring in let lt = constant.0 in omega arith)
      (ap (λ m. (c * get_or constants (place_of b) 0) % m) (modulus_is ring) ∙ constant.1) is

-- formulas of a graph, with the constant terms that follow
pub record AreSound (ring : Ring) (constants : List ℕ) (formulas : List Formula) : Type 0 where
  pub lawful : (i : ℕ) → i < length formulas → IsLawful ring constants i (formula_at formulas i)
  pub constants_are : (i : ℕ) → i < length formulas
      → IsConstant (modulus_of ring) constants (formula_at formulas i) (get_or constants i 0)

pub sound_graph : (graph : GraphValue) → IsGraph graph → AreSound graph.ring graph.constants graph.formulas
sound_graph graph is = record { lawful = is.lawful; constants_are = is.constants_are }

module _ (ring : Ring) (constants : List ℕ) (formulas : List Formula) (sound : AreSound ring constants formulas)
    (D : ℕ) where
  -- f gives the first k nodes their meanings
  abbrev pub AreFirst : ℕ → (ℕ → Poly (series ring)) → Type 0
  AreFirst k f = (i : ℕ) → i < k → IsMeaning (series ring) D f (formula_at formulas i) (f i)

  module _ (k : ℕ) (le : k ≤ length formulas) (f : ℕ → Poly (series ring)) (are : AreFirst k f) where
    series_below : (n i : ℕ) → i < n → i < k → IsSeries D (get_or constants i 0) (f i)
    series_below zero i lt inside = absurd (omega arith)
    series_below (suc n) i lt inside = meaning_is ring constants D f i (get_or constants i 0) (formula_at formulas i)
        (f i) (sound.lawful i (omega arith)) (sound.constants_are i (omega arith))
        (each-weaker (λ j. j < i) (λ j. IsSeries D (get_or constants j 0) (f j))
        (λ j earlier. series_below n j (omega arith) (omega arith)) (formula_at formulas i)
        (names_earlier ring constants i (formula_at formulas i) (sound.lawful i (omega arith)))) (are i inside)

    pub series_first : (i : ℕ) → i < k → IsSeries D (get_or constants i 0) (f i)
    series_first i inside = series_below (suc i) i (omega arith) inside

  pub meanings_are : (f : ℕ → Poly (series ring)) → AreMeanings (series ring) D formulas f → (i : ℕ)
      → i < length formulas → IsSeries D (get_or constants i 0) (f i)
  meanings_are f are = series_first (length formulas) (omega arith) f are

  -- what a node means
  pub means_is : (i : ℕ) (p : Poly (series ring)) → i < length formulas → Means (series ring) D formulas i p
      → IsSeries D (get_or constants i 0) p
  means_is i p inside (f, are, is) = subst (IsSeries D (get_or constants i 0)) (sym is) (meanings_are f are i inside)
