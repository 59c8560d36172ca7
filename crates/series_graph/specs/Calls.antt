-- What the calls of a graph do.
--     IsFull graph      it has 65536 nodes
--     AreIdsOf graph formula      the graph has each node that is named
--     AddsNode formula old new id      new is old with a node of the formula, of which no part is known
--     IsWithoutInverse graph b value gcd      the graph isn't full, and the constant term of b has with the
--         modulus the common divisor gcd, above 1
--     IsAncestor formulas i h      node h is node i, or one that it rests on: each set of nodes that has i, and
--         what each node of it names, has h
--     IsMarked marks j      place j has a mark
--     Marks formulas i marks      what has a mark is node i, or one that it rests on, and no other node is
--     BeginsWith xs ys      the list ys is the list xs with more behind it, or itself
--     AddsPart i old new      one more part of node i is known
--     Keeps old new      the nodes stay, and so does each part that was known
--     KeepsOthers i old new      of nodes that node i doesn't rest on no part is added
--     ReachesAll n i old new      of node i and of those that it rests on n parts at least are known
use Rattle.std.specs.Prelude.{◌≡◌, ℕ, ◌<◌, ◌≤◌, ◌↔◌, Bool, true, false, List, [], ◌∷◌, ◌++◌, length, slice_index_or}
use Rattle.std.specs.Prelude.{slice_set}
use Rattle.std.specs.Int.{IsGcd}
use Rattle.parts.specs.PartValue.{PartValue}
use Rattle.parts.specs.Rings.{modulus_of}
use Rattle.series_graph.specs.Formula.{place_of, Formula, EachNamed}
use Rattle.series_graph.specs.Meaning.{formula_at}
use Rattle.series_graph.specs.GraphValue.{GraphValue, size_of, constant_at, known_at}
use Rattle.series_graph.specs.declared.node.NodeId.{NodeId}

abbrev pub IsFull : GraphValue → Type 0
IsFull graph = size_of graph ≡ 65536

abbrev pub AreIdsOf : GraphValue → Formula → Type 0
AreIdsOf graph formula = EachNamed (λ i. i < size_of graph) formula

pub record AddsNode (formula : Formula) (old new : GraphValue) (id : NodeId) : Type 0 where
  pub constant : ℕ
  pub place : place_of id ≡ size_of old
  pub new_is : new ≡ record {
    ring = old.ring;
    formulas = old.formulas ++ formula ∷ [];
    constants = old.constants ++ constant ∷ [];
    known = old.known ++ [] ∷ [];
  }

pub record IsWithoutInverse (graph : GraphValue) (b : NodeId) (value gcd : ℕ) : Type 0 where
  pub room : size_of graph < 65536
  pub value_is : value ≡ constant_at graph (place_of b)
  pub above : 1 < gcd
  pub divisor : IsGcd value (modulus_of graph.ring) gcd

abbrev pub IsAncestor : List Formula → ℕ → ℕ → Type 0
IsAncestor formulas i h =
    (has : ℕ → Bool) → has i ≡ true
    → ((k : ℕ) → k < length formulas → has k ≡ true → EachNamed (λ j. has j ≡ true) (formula_at formulas k))
    → has h ≡ true

abbrev pub IsMarked : List Bool → ℕ → Type 0
IsMarked marks j = slice_index_or marks j false ≡ true

abbrev pub Marks : List Formula → ℕ → List Bool → Type 0
Marks formulas i marks = (j : ℕ) → IsMarked marks j ↔ IsAncestor formulas i j

abbrev pub BeginsWith : List PartValue → List PartValue → Type 0
BeginsWith xs ys = (more : List PartValue) × (ys ≡ xs ++ more)

pub record AddsPart (i : ℕ) (old new : GraphValue) : Type 0 where
  pub part : PartValue
  pub new_is : new ≡ record old { known = slice_set old.known i (known_at old i ++ part ∷ []) }

pub record Keeps (old new : GraphValue) : Type 0 where
  pub new_is : new ≡ record old { known = new.known }
  pub count : length new.known ≡ length old.known
  pub begin : (i : ℕ) → BeginsWith (known_at old i) (known_at new i)

abbrev pub KeepsOthers : ℕ → GraphValue → GraphValue → Type 0
KeepsOthers i old new = (h : ℕ) → (IsAncestor old.formulas i h → ⊥) → known_at new h ≡ known_at old h

abbrev pub ReachesAll : ℕ → ℕ → GraphValue → GraphValue → Type 0
ReachesAll n i old new = (h : ℕ) → h < size_of old → IsAncestor old.formulas i h → n ≤ length (known_at new h)
