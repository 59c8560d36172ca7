-- The next part of a node that is read, and what its formula's call needs.
use Rattle.std.proofs.Common.{◌≡◌, ℕ, ◌<◌, List, [], ◌∷◌, ◌++◌, length, get_or, sym, ◌∙◌, ap, subst, arith}
use Rattle.std.specs.List.{All}
use Rattle.std.specs.declared.alloc.Global.{Global}
use Rattle.std.specs.declared.vec.Vec.{Vec}
use Rattle.std.proofs.lemmas.List.{length-map}
use Rattle.ps_model.specs.Bounds.{IsUnit}
use Rattle.ps_model.specs.Keys.{y_key}
use Rattle.ps_model.specs.Notation.{homogeneous_part, monomial}
use Rattle.ps_model.specs.Value.{variable}
use Rattle.parts.specs.PartValue.{PartValue, IsPartOf}
use Rattle.parts.specs.Rings.{modulus_of}
use Rattle.parts.specs.RowsOfParts.{part_in}
use Rattle.parts.specs.Series.{series, constant_of}
use Rattle.parts.specs.declared.rings.Ring.{Ring}
use Rattle.units.specs.SeriesParts.{AreSeriesParts, series_of, AreQuotientParts}
use Rattle.series_graph.specs.Formula.{place_of, formula_of, Formula, Combination, Dot}
use Rattle.series_graph.specs.Formula.{Quotient, EachNamed}
use Rattle.series_graph.specs.GraphValue.{known_at, size_of, IsKnownPart, IsGraph}
use Rattle.series_graph.specs.Meaning.{formula_at, combination}
use Rattle.series_graph.specs.Nodes.{formulas_in, known_in, graph_of}
use Rattle.series_graph.specs.Sums.{part_known, products_known, IsPartWith}
use Rattle.series_graph.specs.declared.node.Form.TheVariants as form
use Rattle.series_graph.specs.declared.node.Node.{Node}
use Rattle.series_graph.specs.declared.node.NodeId.{NodeId}
use Rattle.series_graph.proofs.GraphParts.{next_number, next_variable, next_combination, next_dot, next_quotient}
use Rattle.series_graph.proofs.GraphParts.{divisor_unit, named_parts, own_first}
use Rattle.series_graph.proofs.KnownSums.{known_read, known_within}
use Rattle.series_graph.proofs.NextQuotients.{known_parts}
use Rattle.series_graph.proofs.NodesKept.{form_at, own_parts}

module _ (ring : Ring) (nodes : List Node) (is : IsGraph (graph_of ring nodes)) (i : ℕ) (x : Node)
    (lt : i < length nodes) (at : x ≡ get_or nodes i x)
    (named : EachNamed (λ j. length (known_at (graph_of ring nodes) i) < length (known_at (graph_of ring nodes) j))
    (formula_at (formulas_in nodes) i)) where
  inside : i < size_of (graph_of ring nodes)
  inside = let n = length-map nodes (λ (n : Node). formula_of n.form) in omega arith

  abbrev pub IsNextPart : PartValue → Type 0
  IsNextPart p = IsKnownPart ring (formulas_in nodes) i (length (known_at (graph_of ring nodes) i)) p

  named_as : (φ : Formula) → formula_at (formulas_in nodes) i ≡ φ
      → EachNamed (λ j. length (known_at (graph_of ring nodes) i) < length (known_at (graph_of ring nodes) j)) φ
  named_as φ same = subst (λ (ψ : Formula). EachNamed
      (λ j. length (known_at (graph_of ring nodes) i) < length (known_at (graph_of ring nodes) j)) ψ) same named

  module _ (r : ℕ) (count : r ≡ length x.known) where
    known_count : r ≡ length (known_at (graph_of ring nodes) i)
    known_count = count ∙ ap length (own_parts nodes i x lt at)

    pub next_is_number : (c : ℕ) (p : PartValue) → x.form ≡ form.Number c
        → IsPartWith ring r (homogeneous_part r (monomial c (y_key (series ring).variables 0))) p → IsNextPart p
    next_is_number c p holds part = next_number (graph_of ring nodes) is i inside p c
        (form_at nodes i x (form.Number c) lt at holds)
        (subst (λ n. IsPartWith ring n (homogeneous_part n (monomial c (y_key (series ring).variables 0))) p)
        known_count part)

    pub next_is_variable : (v : ℕ) (p : PartValue) → x.form ≡ form.Variable v
        → IsPartWith ring r (homogeneous_part r (variable (series ring) v)) p → IsNextPart p
    next_is_variable v p holds part = next_variable (graph_of ring nodes) is i inside p v
        (form_at nodes i x (form.Variable v) lt at holds)
        (subst (λ n. IsPartWith ring n (homogeneous_part n (variable (series ring) v)) p) known_count part)

    pub next_is_combination : (of : Vec (ℕ × NodeId) Global) (items : List (ℕ × NodeId)) (p : PartValue)
        → x.form ≡ form.Combination of → items ≡ of.items
        → IsPartWith ring r (combination (series ring) (λ j. part_known ring (known_in nodes) j r) items) p
        → IsNextPart p
    next_is_combination of items p holds same part =
        let formula = form_at nodes i x (form.Combination of) lt at holds ∙ ap Combination (sym same) in
        next_combination (graph_of ring nodes) is i inside p items formula (named_as (Combination items) formula)
        (subst (λ n. IsPartWith ring n (combination (series ring) (λ j. part_known ring (known_in nodes) j n) items) p)
        known_count part)

    pub next_is_dot : (of : Vec (NodeId × NodeId) Global) (items : List (NodeId × NodeId)) (p : PartValue)
        → x.form ≡ form.Dot of → items ≡ of.items
        → IsPartWith ring r (products_known ring (known_in nodes) r items) p → IsNextPart p
    next_is_dot of items p holds same part =
        let formula = form_at nodes i x (form.Dot of) lt at holds ∙ ap Dot (sym same) in
        next_dot (graph_of ring nodes) is i inside p items formula (named_as (Dot items) formula)
        (subst (λ n. IsPartWith ring n (products_known ring (known_in nodes) n items) p) known_count part)

    pub dot_known : (of : Vec (NodeId × NodeId) Global) (items : List (NodeId × NodeId)) → x.form ≡ form.Dot of
        → items ≡ of.items → All (λ t. (r < length (known_at (graph_of ring nodes) (place_of t.0)))
        × (r < length (known_at (graph_of ring nodes) (place_of t.1)))) items
    dot_known of items holds same = subst (λ n. All (λ t. (n < length (known_at (graph_of ring nodes) (place_of t.0)))
        × (n < length (known_at (graph_of ring nodes) (place_of t.1)))) items) (sym known_count)
        (named_as (Dot items) (form_at nodes i x (form.Dot of) lt at holds ∙ ap Dot (sym same)))

  module _ (a b : NodeId) (holds : x.form ≡ form.Quotient a b) (y z : Node) where
    formula : formula_at (formulas_in nodes) i ≡ Quotient a b
    formula = form_at nodes i x (form.Quotient a b) lt at holds

    -- the known parts of the dividend and of the divisor
    abbrev pub dividend : List PartValue
    dividend = (get_or nodes (place_of a) y).known

    abbrev pub divisor : List PartValue
    divisor = (get_or nodes (place_of b) z).known

    of_a : dividend ≡ known_at (graph_of ring nodes) (place_of a)
    of_a = known_read nodes (place_of a) y
        (known_within nodes (place_of a) (length (known_at (graph_of ring nodes) i))
        (named_as (Quotient a b) formula).0)

    of_b : divisor ≡ known_at (graph_of ring nodes) (place_of b)
    of_b = known_read nodes (place_of b) z
        (known_within nodes (place_of b) (length (known_at (graph_of ring nodes) i))
        (named_as (Quotient a b) formula).1)

    of_own : x.known ≡ known_at (graph_of ring nodes) i
    of_own = own_parts nodes i x lt at

    pub quotient_enough : (length x.known < length dividend) × (length x.known < length divisor)
    quotient_enough =
        let more = named_as (Quotient a b) formula in
        let own = ap length of_own in let first = ap length of_a in let second = ap length of_b in
        let first_more = more.0 in let second_more = more.1 in
        (omega arith, omega arith)

    pub quotient_unit : IsUnit (modulus_of ring) (constant_of ring (part_in divisor 0))
    quotient_unit = subst (λ (ps : List PartValue). IsUnit (modulus_of ring) (constant_of ring (part_in ps 0)))
        (sym of_b) (divisor_unit (graph_of ring nodes) is i inside a b formula (named_as (Quotient a b) formula))

    pub quotient_parts : AreSeriesParts ring dividend × AreSeriesParts ring divisor × AreSeriesParts ring x.known
    quotient_parts = (
      subst (AreSeriesParts ring) (sym of_a) (named_parts (graph_of ring nodes) is i inside a b formula).0,
      subst (AreSeriesParts ring) (sym of_b) (named_parts (graph_of ring nodes) is i inside a b formula).1,
      subst (AreSeriesParts ring) (sym of_own) (known_parts (graph_of ring nodes) is i inside),
    )

    pub quotient_own : AreQuotientParts ring (series_of ring dividend) (series_of ring divisor) x.known
    quotient_own = subst (λ (ps : List PartValue). AreQuotientParts ring (series_of ring ps)
        (series_of ring divisor) x.known) (sym of_a)
        (subst (λ (ps : List PartValue). AreQuotientParts ring
        (series_of ring (known_at (graph_of ring nodes) (place_of a))) (series_of ring ps) x.known) (sym of_b)
        (subst (AreQuotientParts ring (series_of ring (known_at (graph_of ring nodes) (place_of a)))
        (series_of ring (known_at (graph_of ring nodes) (place_of b)))) (sym of_own)
        (own_first (graph_of ring nodes) is i inside a b formula (named_as (Quotient a b) formula))))

    pub next_is_quotient : (p : PartValue) → p.degree ≡ length x.known → IsPartOf ring p
        → AreQuotientParts ring (series_of ring dividend) (series_of ring divisor) (x.known ++ p ∷ []) → IsNextPart p
    next_is_quotient p degree part parts = next_quotient (graph_of ring nodes) is i inside p a b formula
        (named_as (Quotient a b) formula) (degree ∙ ap length of_own, part)
        (subst (λ (ps : List PartValue). AreQuotientParts ring
        (series_of ring (known_at (graph_of ring nodes) (place_of a)))
        (series_of ring (known_at (graph_of ring nodes) (place_of b))) (ps ++ p ∷ [])) of_own
        (subst (λ (ps : List PartValue). AreQuotientParts ring
        (series_of ring (known_at (graph_of ring nodes) (place_of a))) (series_of ring ps) (x.known ++ p ∷ []))
        of_b
        (subst (λ (ps : List PartValue). AreQuotientParts ring (series_of ring ps)
        (series_of ring divisor) (x.known ++ p ∷ [])) of_a parts)))
