-- Cut at a lower degree, what nodes mean is what they mean up to the lower degree: so a part of a node is the same at
-- each degree.
use Rattle.std.proofs.Common.{◌≡◌, ℕ, ◌<◌, ◌≤◌, List, [], ◌∷◌, length, sym, ◌∙◌, ap, arith}
use Rattle.ps_model.specs.Notation.{homogeneous_part}
use Rattle.ps_model.specs.Polynomial.{Polynomial, sum, scaled}
use Rattle.ps_model.specs.Prepared.{IsQuotient}
use Rattle.ps_model.specs.Ring.{Ring as AnyRing}
use Rattle.ps_model.specs.SeriesRing.{SeriesRing, ring as ring_of, degree, Poly}
use Rattle.ps_model.specs.Truncation.{truncated}
use Rattle.ps_model.proofs.Factors.{truncated-lower, truncated-product_right}
use Rattle.ps_model.proofs.KeptTerms.{kept_terms-scaled}
use Rattle.ps_model.proofs.PowerBounds.{truncated-nothing}
use Rattle.ps_model.proofs.Quotients.{quotient-truncated}
use Rattle.ps_model.proofs.Truncations.{truncated-sum, truncated-product, homogeneous_part-truncated}
use Rattle.parts.specs.PartValue.{PartValue}
use Rattle.parts.specs.Series.{series, polynomial_in}
use Rattle.parts.specs.declared.rings.Ring.{Ring}
use Rattle.units.specs.SeriesParts.{IsPartAt}
use Rattle.series_graph.specs.Formula.{place_of, Formula, Number, Variable, Combination, Dot, Quotient}
use Rattle.series_graph.specs.GraphValue.{IsKnownPart}
use Rattle.series_graph.specs.Meaning.{formula_at, combination, products, IsMeaning, AreMeanings, Means}
use Rattle.series_graph.specs.declared.node.NodeId.{NodeId}
use Rattle.series_graph.proofs.Existence.{same_means}
use Rattle.series_graph.proofs.Meanings.{AreSound}

module _ (R : AnyRing) where
  truncated-scaled : (D c : ℕ) (p : Polynomial R)
      → truncated R R.degree D (scaled R c p) ≡ scaled R c (truncated R R.degree D p)
  unfolding truncated
  truncated-scaled D c p = kept_terms-scaled R _ c p

  -- only the divisor up to the degree counts
  quotient_cut : (D : ℕ) (a b q : Polynomial R) → IsQuotient D a b q → IsQuotient D a (truncated R R.degree D b) q
  quotient_cut D a b q is = record {
    within = is.within;
    multiplies_back = sym (truncated-product_right R R.degree R.degree_adds D q b) ∙ is.multiplies_back;
  }

module _ (S : SeriesRing) (d : ℕ) (f : ℕ → Poly S) where
  abbrev pub cut : ℕ → Poly S
  cut j = truncated (ring_of S) (degree S) d (f j)

  combination-cut : (of : List (ℕ × NodeId))
      → truncated (ring_of S) (degree S) d (combination S f of) ≡ combination S cut of
  combination-cut [] = truncated-nothing (ring_of S) (degree S) d
  combination-cut (t ∷ ts) = truncated-sum (ring_of S) (degree S) d _ _
      ∙ (λ i. sum (ring_of S) (truncated-scaled (ring_of S) d t.0 (f (place_of t.1)) i) (combination-cut ts i))

  products-cut : (of : List (NodeId × NodeId))
      → truncated (ring_of S) (degree S) d (products S f of) ≡ truncated (ring_of S) (degree S) d (products S cut of)
  products-cut [] = λ i. truncated (ring_of S) (degree S) d (products S f [])
  products-cut (t ∷ ts) = truncated-sum (ring_of S) (degree S) d _ _
      ∙ (λ i. sum (ring_of S) (truncated-product (ring_of S) (degree S) (ring_of S).degree_adds d
      (f (place_of t.0)) (f (place_of t.1)) i) (products-cut ts i))
      ∙ sym (truncated-sum (ring_of S) (degree S) d _ _)

  module _ (D : ℕ) (le : d ≤ D) where
    cut-cut : (p q : Poly S) → p ≡ truncated (ring_of S) (degree S) D q
        → truncated (ring_of S) (degree S) d p ≡ truncated (ring_of S) (degree S) d q
    cut-cut p q is = ap (truncated (ring_of S) (degree S) d) is ∙ truncated-lower (ring_of S) (degree S) d D q le

    pub meaning-cut : (formula : Formula) (p : Poly S) → IsMeaning S D f formula p
        → IsMeaning S d cut formula (truncated (ring_of S) (degree S) d p)
    meaning-cut (Number c) p is = cut-cut p _ is
    meaning-cut (Variable i) p is = cut-cut p _ is
    meaning-cut (Combination of) p is = ap (truncated (ring_of S) (degree S) d) is ∙ combination-cut of
    meaning-cut (Dot of) p is = cut-cut p _ is ∙ products-cut of
    meaning-cut (Quotient a b) p is = quotient_cut (ring_of S) d _ (f (place_of b)) _
        (quotient-truncated (ring_of S) d D (f (place_of a)) (f (place_of b)) p le is)

    pub meanings-cut : (formulas : List Formula) → AreMeanings S D formulas f → AreMeanings S d formulas cut
    meanings-cut formulas are i lt = meaning-cut (formula_at formulas i) (f i) (are i lt)

pub means-cut : (S : SeriesRing) (d D : ℕ) → d ≤ D → (formulas : List Formula) (i : ℕ) (p : Poly S)
    → Means S D formulas i p → Means S d formulas i (truncated (ring_of S) (degree S) d p)
means-cut S d D le formulas i p (f, are, is) =
    (cut S d f, meanings-cut S d f D le formulas are, ap (truncated (ring_of S) (degree S) d) is)

module _ (ring : Ring) (constants : List ℕ) (formulas : List Formula) (sound : AreSound ring constants formulas)
    (i r : ℕ) (inside : i < length formulas) where
  -- a part of what a node means is the same at each degree from its own on
  pub same_part : (D E : ℕ) (p q : Poly (series ring)) → r ≤ D → r ≤ E → Means (series ring) D formulas i p
      → Means (series ring) E formulas i q → homogeneous_part r p ≡ homogeneous_part r q
  same_part D E p q low low' is is' =
      sym (homogeneous_part-truncated (ring_of (series ring)) (degree (series ring)) r r p (omega arith))
      ∙ ap (homogeneous_part r) (same_means ring constants formulas sound r i _ _ inside
      (means-cut (series ring) r D low formulas i p is) (means-cut (series ring) r E low' formulas i q is'))
      ∙ homogeneous_part-truncated (ring_of (series ring)) (degree (series ring)) r r q (omega arith)

  -- so that one degree tells a known part
  pub known_from : (D : ℕ) (q : Poly (series ring)) (p : PartValue) → r ≤ D → Means (series ring) D formulas i q
      → IsPartAt ring r p → polynomial_in ring p.map ≡ homogeneous_part r q → IsKnownPart ring formulas i r p
  known_from D q p low is part value = record {
    part = part;
    meaning = λ E other low' is'. value ∙ same_part D E q other low low' is is';
  }
