-- The next part of a graph's node, where those of the nodes that it names are known.
use Rattle.std.proofs.Common.{◌≡◌, ℕ, ◌<◌, List, [], ◌∷◌, ◌++◌, length, subst, sym, arith}
use Rattle.ps_model.specs.Bounds.{IsUnit}
use Rattle.ps_model.specs.Keys.{y_key}
use Rattle.ps_model.specs.Notation.{homogeneous_part, monomial}
use Rattle.ps_model.specs.Value.{variable}
use Rattle.parts.specs.PartValue.{PartValue}
use Rattle.parts.specs.Rings.{modulus_of}
use Rattle.parts.specs.RowsOfParts.{part_in}
use Rattle.parts.specs.Series.{series, constant_of}
use Rattle.units.specs.SeriesParts.{IsPartAt, AreSeriesParts, series_of, AreQuotientParts}
use Rattle.series_graph.specs.Formula.{place_of, Formula, Number, Variable, Combination, Dot, Quotient, EachNamed}
use Rattle.series_graph.specs.GraphValue.{GraphValue, IsGraph, IsLawful, IsKnownPart, size_of, known_at}
use Rattle.series_graph.specs.Meaning.{formula_at, combination}
use Rattle.series_graph.specs.Sums.{part_known, products_known, IsPartWith}
use Rattle.series_graph.specs.declared.node.NodeId.{NodeId}
use Rattle.series_graph.proofs.NextParts.{known_number, known_variable, known_combination, known_dot, KnowsUpTo}
use Rattle.series_graph.proofs.NextQuotients.{known_parts, known_constant, quotient_first, known_quotient}

module _ (graph : GraphValue) (is : IsGraph graph) (i : ℕ) (inside : i < size_of graph) where
  lawful_as : (formula : Formula) → formula_at graph.formulas i ≡ formula
      → IsLawful graph.ring graph.constants i formula
  lawful_as formula at = subst (λ (φ : Formula). IsLawful graph.ring graph.constants i φ) at (is.lawful i inside)

  -- more parts of the node j are known than of the node i
  abbrev pub HasMore : ℕ → Type 0
  HasMore j = length (known_at graph i) < length (known_at graph j)

  known_upto_next : (j : ℕ) → j < i → HasMore j
      → KnowsUpTo graph.ring graph.formulas graph.known (length (known_at graph i)) j
  known_upto_next j before more = λ s below. is.known_are j s (omega arith) (omega arith)

  module _ (p : PartValue) where
    abbrev pub IsNext : Type 0
    IsNext = IsKnownPart graph.ring graph.formulas i (length (known_at graph i)) p

    pub next_number : (c : ℕ) → formula_at graph.formulas i ≡ Number c
        → IsPartWith graph.ring (length (known_at graph i))
        (homogeneous_part (length (known_at graph i)) (monomial c (y_key (series graph.ring).variables 0))) p → IsNext
    next_number c at is_part =
        known_number graph.ring graph.formulas i (length (known_at graph i)) p inside c at is_part

    pub next_variable : (v : ℕ) → formula_at graph.formulas i ≡ Variable v
        → IsPartWith graph.ring (length (known_at graph i))
        (homogeneous_part (length (known_at graph i)) (variable (series graph.ring) v)) p → IsNext
    next_variable v at is_part =
        known_variable graph.ring graph.formulas i (length (known_at graph i)) p inside v at is_part

    pub next_combination : (of : List (ℕ × NodeId)) → formula_at graph.formulas i ≡ Combination of
        → EachNamed HasMore (Combination of)
        → IsPartWith graph.ring (length (known_at graph i)) (combination (series graph.ring)
        (λ j. part_known graph.ring graph.known j (length (known_at graph i))) of) p → IsNext
    next_combination of at named is_part =
        let lawful = lawful_as (Combination of) at in
        known_combination graph.ring graph.formulas graph.known i (length (known_at graph i)) p inside of at
        (λ k d lt. known_upto_next _ (lawful k d lt).1 (named k d lt)) is_part

    pub next_dot : (of : List (NodeId × NodeId)) → formula_at graph.formulas i ≡ Dot of
        → EachNamed HasMore (Dot of) → IsPartWith graph.ring (length (known_at graph i))
        (products_known graph.ring graph.known (length (known_at graph i)) of) p → IsNext
    next_dot of at named is_part =
        let lawful = lawful_as (Dot of) at in
        known_dot graph.ring graph.formulas graph.known i (length (known_at graph i)) p inside of at
        (λ k d lt. let before = lawful k d lt in let more = named k d lt in
        (known_upto_next _ before.0 more.0, known_upto_next _ before.1 more.1)) is_part

  -- what is asked of a quotient before its next part
  pub divisor_unit : (a b : NodeId) → formula_at graph.formulas i ≡ Quotient a b → EachNamed HasMore (Quotient a b)
      → IsUnit (modulus_of graph.ring) (constant_of graph.ring (part_in (known_at graph (place_of b)) 0))
  divisor_unit a b at named =
      let lawful = lawful_as (Quotient a b) at in
      let more = named.1 in
      subst (IsUnit (modulus_of graph.ring))
      (sym (known_constant graph is (place_of b) (omega arith) (omega arith))) lawful.2

  pub named_parts : (a b : NodeId) → formula_at graph.formulas i ≡ Quotient a b
      → AreSeriesParts graph.ring (known_at graph (place_of a))
      × AreSeriesParts graph.ring (known_at graph (place_of b))
  named_parts a b at =
      let lawful = lawful_as (Quotient a b) at in
      (known_parts graph is (place_of a) (omega arith), known_parts graph is (place_of b) (omega arith))

  pub own_first : (a b : NodeId) → formula_at graph.formulas i ≡ Quotient a b → EachNamed HasMore (Quotient a b)
      → AreQuotientParts graph.ring (series_of graph.ring (known_at graph (place_of a)))
      (series_of graph.ring (known_at graph (place_of b))) (known_at graph i)
  own_first a b at named =
      let more = named.0 in
      let more' = named.1 in
      quotient_first graph is i a b inside at (omega arith) (omega arith)

  pub next_quotient : (p : PartValue) (a b : NodeId) → formula_at graph.formulas i ≡ Quotient a b
      → EachNamed HasMore (Quotient a b) → IsPartAt graph.ring (length (known_at graph i)) p
      → AreQuotientParts graph.ring (series_of graph.ring (known_at graph (place_of a)))
      (series_of graph.ring (known_at graph (place_of b))) (known_at graph i ++ p ∷ []) → IsNext p
  next_quotient p a b at named part parts = known_quotient graph is i a b inside at p named.0 named.1 part parts
