-- What nodes mean, up to a degree D.
--     combination S f of      the sum of each number times what f gives its node; 0 of none
--     products S f of      the sum of the products of what f gives each two nodes; 0 of none
--     IsMeaning S D f formula p      p is what the formula means where f gives each node its meaning; of a
--         quotient p has no entry of degree above D, and times the divisor it is the dividend up to D
--     formula_at formulas i      the formula at place i
--     AreMeanings S D formulas f      f gives each node of the list its meaning
--     Means S D formulas i p      the node at place i means p
use Rattle.std.specs.Prelude.{◌≡◌, ℕ, ◌<◌, List, [], ◌∷◌, length, slice_index_or}
use Rattle.ps_model.specs.Keys.{y_key}
use Rattle.ps_model.specs.Notation.{zero, monomial, sum, scaled, product, truncated}
use Rattle.ps_model.specs.Prepared.{IsQuotient}
use Rattle.ps_model.specs.SeriesRing.{SeriesRing, Poly}
use Rattle.ps_model.specs.Value.{variable}
use Rattle.series_graph.specs.Formula.{place_of, Formula, Number, Variable, Combination, Dot, Quotient}
use Rattle.series_graph.specs.declared.node.NodeId.{NodeId}

abbrev pub formula_at : List Formula → ℕ → Formula
formula_at formulas i = slice_index_or formulas i (Number 0)

module _ (S : SeriesRing) where
  abbrev pub combination : (ℕ → Poly S) → List (ℕ × NodeId) → Poly S
  combination f [] = zero
  combination f (t ∷ ts) = sum (scaled t.0 (f (place_of t.1))) (combination f ts)

  abbrev pub products : (ℕ → Poly S) → List (NodeId × NodeId) → Poly S
  products f [] = zero
  products f (t ∷ ts) = sum (product (f (place_of t.0)) (f (place_of t.1))) (products f ts)

  module _ (D : ℕ) where
    abbrev pub IsMeaning : (ℕ → Poly S) → Formula → Poly S → Type 0
    IsMeaning f (Number c) p = p ≡ truncated D (monomial c (y_key S.variables 0))
    IsMeaning f (Variable i) p = p ≡ truncated D (variable S i)
    IsMeaning f (Combination of) p = p ≡ combination f of
    IsMeaning f (Dot of) p = p ≡ truncated D (products f of)
    IsMeaning f (Quotient a b) p = IsQuotient D (f (place_of a)) (f (place_of b)) p

    abbrev pub AreMeanings : List Formula → (ℕ → Poly S) → Type 0
    AreMeanings formulas f = (i : ℕ) → i < length formulas → IsMeaning f (formula_at formulas i) (f i)

    abbrev pub Means : List Formula → ℕ → Poly S → Type 0
    Means formulas i p = (f : ℕ → Poly S) × AreMeanings formulas f × (p ≡ f i)
