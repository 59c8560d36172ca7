-- The nodes that a formula names.
use Rattle.std.proofs.Common.{◌≡◌, ℕ, ◌<◌, List, [], ◌∷◌, refl, ◌∙◌, ap, subst}
use Rattle.std.specs.List.{All}
use Rattle.std.proofs.lemmas.List.Elements.{All-head, All-tail}
use Rattle.ps_model.specs.Polynomial.{sum, scaled, product}
use Rattle.ps_model.specs.Prepared.{IsQuotient}
use Rattle.ps_model.specs.SeriesRing.{SeriesRing, ring, degree, Poly}
use Rattle.ps_model.specs.Truncation.{truncated}
use Rattle.parts.specs.declared.rings.Ring.{Ring}
use Rattle.series_graph.specs.Formula.{place_of, Formula, Number, Variable, Combination, Dot, Quotient, EachNamed}
use Rattle.series_graph.specs.GraphValue.{IsLawful}
use Rattle.series_graph.specs.Meaning.{combination, products, IsMeaning}
use Rattle.series_graph.specs.declared.node.NodeId.{NodeId}

pub each-weaker : (P Q : ℕ → Type 0) → ((j : ℕ) → P j → Q j) → (formula : Formula) → EachNamed P formula
    → EachNamed Q formula
each-weaker P Q h (Number c) each = tt
each-weaker P Q h (Variable i) each = tt
each-weaker P Q h (Combination of) each = λ k d lt. h _ (each k d lt)
each-weaker P Q h (Dot of) each = λ k d lt. let both = each k d lt in (h _ both.0, h _ both.1)
each-weaker P Q h (Quotient a b) each = (h _ each.0, h _ each.1)

-- they stand earlier
pub names_earlier : (ring : Ring) (constants : List ℕ) (i : ℕ) (formula : Formula)
    → IsLawful ring constants i formula → EachNamed (λ j. j < i) formula
names_earlier ring constants i (Number c) lawful = tt
names_earlier ring constants i (Variable v) lawful = tt
names_earlier ring constants i (Combination of) lawful = λ k d lt. (lawful k d lt).1
names_earlier ring constants i (Dot of) lawful = lawful
names_earlier ring constants i (Quotient a b) lawful = (lawful.0, lawful.1)

-- only what the named nodes mean counts
module _ (S : SeriesRing) (f g : ℕ → Poly S) where
  combination-same : (of : List (ℕ × NodeId)) → All (λ t. f (place_of t.1) ≡ g (place_of t.1)) of
      → combination S f of ≡ combination S g of
  combination-same [] each = refl
  combination-same (t ∷ ts) each = λ i. sum (ring S)
      (scaled (ring S) t.0 (All-head (λ (t : ℕ × NodeId). f (place_of t.1) ≡ g (place_of t.1)) t ts each i))
      (combination-same ts (All-tail (λ (t : ℕ × NodeId). f (place_of t.1) ≡ g (place_of t.1)) t ts each) i)

  abbrev Alike : NodeId × NodeId → Type 0
  Alike t = (f (place_of t.0) ≡ g (place_of t.0)) × (f (place_of t.1) ≡ g (place_of t.1))

  products-same : (of : List (NodeId × NodeId)) → All Alike of → products S f of ≡ products S g of
  products-same [] each = refl
  products-same (t ∷ ts) each = let both = All-head Alike t ts each in
      λ i. sum (ring S) (product (ring S) (both.0 i) (both.1 i)) (products-same ts (All-tail Alike t ts each) i)

  pub meaning-same : (D : ℕ) (formula : Formula) (p : Poly S) → EachNamed (λ j. f j ≡ g j) formula
      → IsMeaning S D f formula p → IsMeaning S D g formula p
  meaning-same D (Number c) p each is = is
  meaning-same D (Variable i) p each is = is
  meaning-same D (Combination of) p each is = is ∙ combination-same of each
  meaning-same D (Dot of) p each is = is ∙ ap (truncated (ring S) (degree S) D) (products-same of each)
  meaning-same D (Quotient a b) p each is = subst (λ t. IsQuotient D t (g (place_of b)) p) each.0
      (subst (λ t. IsQuotient D (f (place_of a)) t p) each.1 is)
