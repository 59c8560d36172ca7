-- What contracts see of a graph: its ring, and of each node the formula, the constant term and the
-- parts that are known, from degree 0 on.
--     size_of graph      how many nodes there are
--     IsIdOf graph id      it has the node
--     constant_at graph i, known_at graph i      the constant term of the node at place i, and its known parts
--     combined, multiplied constants of      the sum of each number times its node's constant term; the sum of
--         the products of each two nodes'
--     IsConstant m constants formula c      c is what follows modulo m from those of the named nodes
--     IsKnownPart ring formulas i r p      p is the part of degree r of what node i means
--     IsLawful ring constants i formula      a formula for node i: it names earlier nodes, numbers are
--         residues, variables are the ring's, and a divisor's constant term is a unit
--     IsGraph graph      what is true of every graph
use Rattle.std.specs.Prelude.{◌≡◌, ℕ, ◌+◌, ◌*◌, ◌%◌, ◌<◌, ◌≤◌, List, [], ◌∷◌, length, slice_index_or}
use Rattle.std.specs.Prelude.{◌⊎◌, refl}
use Rattle.std.specs.List.{All}
use Rattle.std.specs.Coded.{Coded, code_by, coded×, coded⊎, coded_ℕ, coded_list}
use mathlib.Core.Logic.{inl, inr}
use Rattle.ps_model.specs.Bounds.{IsUnit}
use Rattle.ps_model.specs.Notation.{homogeneous_part}
use Rattle.ps_model.specs.SeriesRing.{Poly}
use Rattle.parts.specs.PartValue.{PartValue, part_code}
use Rattle.parts.specs.Rings.{modulus_of, variables_of}
use Rattle.parts.specs.RowsOfParts.{part_in}
use Rattle.parts.specs.Series.{series, polynomial_in}
use Rattle.parts.specs.contracts.rings.Ring.{the_row as ring_row}
use Rattle.parts.specs.declared.rings.Ring.{Ring}
use Rattle.units.specs.SeriesParts.{IsPartAt}
use Rattle.series_graph.specs.Formula.{place_of, EachNamed, Formula, Number, Variable, Combination, Dot, Quotient}
use Rattle.series_graph.specs.Meaning.{formula_at, Means}
use Rattle.series_graph.specs.contracts.node.NodeId.{the_row}
use Rattle.series_graph.specs.declared.node.NodeId.{NodeId}

pub record GraphValue : Type 0 where
  pub ring : Ring
  pub formulas : List Formula
  pub constants : List ℕ
  pub known : List (List PartValue)

-- a formula as one of five
abbrev Cases : Type 0
Cases = ℕ ⊎ (ℕ ⊎ (List (ℕ × NodeId) ⊎ (List (NodeId × NodeId) ⊎ (NodeId × NodeId))))

abbrev cases_of : Formula → Cases
cases_of (Number c) = inl c
cases_of (Variable i) = inr (inl i)
cases_of (Combination of) = inr (inr (inl of))
cases_of (Dot of) = inr (inr (inr (inl of)))
cases_of (Quotient a b) = inr (inr (inr (inr (a, b))))

abbrev of_cases : Cases → Formula
of_cases (inl c) = Number c
of_cases (inr (inl i)) = Variable i
of_cases (inr (inr (inl of))) = Combination of
of_cases (inr (inr (inr (inl of)))) = Dot of
of_cases (inr (inr (inr (inr p)))) = Quotient p.0 p.1

pub of_cases-cases_of : (f : Formula) → of_cases (cases_of f) ≡ f
of_cases-cases_of (Number c) = refl
of_cases-cases_of (Variable i) = refl
of_cases-cases_of (Combination of) = refl
of_cases-cases_of (Dot of) = refl
of_cases-cases_of (Quotient a b) = refl

abbrev formula_code : Coded Formula
formula_code = code_by Cases
    (coded⊎ coded_ℕ (coded⊎ coded_ℕ (coded⊎ (coded_list (coded× coded_ℕ the_row.coded))
    (coded⊎ (coded_list (coded× the_row.coded the_row.coded)) (coded× the_row.coded the_row.coded)))))
    cases_of of_cases of_cases-cases_of

abbrev pub graph_code : Coded GraphValue
graph_code = code_by (Ring × (List Formula × (List ℕ × List (List PartValue))))
    (coded× ring_row.coded (coded× (coded_list formula_code)
    (coded× (coded_list coded_ℕ) (coded_list (coded_list part_code)))))
    (λ g. (g.ring, (g.formulas, (g.constants, g.known))))
    (λ t. record { ring = t.0; formulas = t.1.0; constants = t.1.1.0; known = t.1.1.1 }) (λ _. refl)

abbrev pub size_of : GraphValue → ℕ
size_of graph = length graph.formulas

abbrev pub IsIdOf : GraphValue → NodeId → Type 0
IsIdOf graph id = place_of id < size_of graph

abbrev pub constant_at : GraphValue → ℕ → ℕ
constant_at graph i = slice_index_or graph.constants i 0

abbrev pub known_at : GraphValue → ℕ → List PartValue
known_at graph i = slice_index_or graph.known i []

abbrev pub combined : List ℕ → List (ℕ × NodeId) → ℕ
combined constants [] = 0
combined constants (t ∷ ts) = t.0 * slice_index_or constants (place_of t.1) 0 + combined constants ts

abbrev pub multiplied : List ℕ → List (NodeId × NodeId) → ℕ
multiplied constants [] = 0
multiplied constants (t ∷ ts) =
    slice_index_or constants (place_of t.0) 0 * slice_index_or constants (place_of t.1) 0 + multiplied constants ts

abbrev pub IsConstant : ℕ → List ℕ → Formula → ℕ → Type 0
IsConstant m constants (Number c) x = x ≡ c
IsConstant m constants (Variable i) x = x ≡ 0
IsConstant m constants (Combination of) x = x ≡ combined constants of % m
IsConstant m constants (Dot of) x = x ≡ multiplied constants of % m
IsConstant m constants (Quotient a b) x =
    (x < m) × ((x * slice_index_or constants (place_of b) 0) % m ≡ slice_index_or constants (place_of a) 0)

pub record IsKnownPart (ring : Ring) (formulas : List Formula) (i r : ℕ) (p : PartValue) : Type 0 where
  pub part : IsPartAt ring r p
  pub meaning : (D : ℕ) (q : Poly (series ring)) → r ≤ D → Means (series ring) D formulas i q
      → polynomial_in ring p.map ≡ homogeneous_part r q

abbrev pub IsLawful : Ring → List ℕ → ℕ → Formula → Type 0
IsLawful ring constants i (Number c) = c < modulus_of ring
IsLawful ring constants i (Variable v) = v < variables_of ring
IsLawful ring constants i (Combination of) = All (λ t. (t.0 < modulus_of ring) × (place_of t.1 < i)) of
IsLawful ring constants i (Dot of) = All (λ t. (place_of t.0 < i) × (place_of t.1 < i)) of
IsLawful ring constants i (Quotient a b) =
    (place_of a < i) × (place_of b < i) × IsUnit (modulus_of ring) (slice_index_or constants (place_of b) 0)

pub record IsGraph (graph : GraphValue) : Type 0 where
  pub few : size_of graph ≤ 65536
  pub constants_count : length graph.constants ≡ size_of graph
  pub known_count : length graph.known ≡ size_of graph
  pub lawful : (i : ℕ) → i < size_of graph → IsLawful graph.ring graph.constants i (formula_at graph.formulas i)
  pub constants_are : (i : ℕ) → i < size_of graph
      → IsConstant (modulus_of graph.ring) graph.constants (formula_at graph.formulas i) (constant_at graph i)
  pub known_few : (i : ℕ) → length (known_at graph i) ≤ 4096
  pub known_are : (i r : ℕ) → i < size_of graph → r < length (known_at graph i)
      → IsKnownPart graph.ring graph.formulas i r (part_in (known_at graph i) r)
  -- no node knows more than those that it names
  pub falling : (i : ℕ) → i < size_of graph
      → EachNamed (λ j. length (known_at graph i) ≤ length (known_at graph j)) (formula_at graph.formulas i)
