-- Slots: the nodes of a polynomial's coefficients, one for each power of Y from Y^0 on.
--     slot_at S f ids j      what f gives the slot of Y^j; 0 past the end
--     Mean S D formulas ids v      in each meaning of the nodes the slots are the coefficients of v
--     AreIn graph ids      the graph has the nodes
--     Addend      a residue, the sign, and the slots that it stands before
--     terms_of addends j      the terms of the coefficient of Y^j of the addends' sum; none of no addend
--     pairs_to a b j n      the pairs of a slot of a, of the first n, and one of b whose powers add to j
--     each_to n g      the list g 0, g 1 .. g (n - 1)
--     AddsEach formulas old new ids      new is old with a node of each formula, and ids are these nodes
--     IsFlatSlot node ids      the node was made, and is the one slot
--     IsUnitAt ring formulas id      in each meaning of the nodes the constant term of this one is a unit
--     Multiplies S D divide u v w      w is u times v up to degree D, or u / v where it is divided
--     AddsSlots n count old new ids      new is old with n more nodes, and ids are so many of its nodes
--     DividesWell ring e      the divisors of e are units without Y in this ring
--     Builds e old new ids      new is old with the nodes of e, and ids are the slots of e's value
use Rattle.std.specs.Prelude.{◌≡◌, ℕ, zero, suc, ◌+◌, ◌-◌, ◌*◌, ◌<◌, List, [], ◌∷◌, ◌++◌, length, map, slice_get}
use Rattle.std.specs.Prelude.{Option, Some, None, Result, Ok, Bool, true, false, MatchBool}
use Rattle.std.specs.List.{All}
use Rattle.ps_model.specs.declared.expr.Expr.{Expr}
use Rattle.ps_model.specs.Bounds.{HasNoPowerAbove, IsUnit}
use Rattle.ps_model.specs.Divisions.{DividesByUnits}
use Rattle.ps_model.specs.Notation.{zero as nought, constant_term, product, truncated, y_coefficient}
use Rattle.ps_model.specs.Prepared.{IsQuotient}
use Rattle.ps_model.specs.SeriesRing.{SeriesRing, Poly}
use Rattle.ps_model.specs.Tree.{formal_degree, node_count}
use Rattle.ps_model.specs.Value.{variable, IsValue}
use Rattle.parts.specs.Rings.{modulus_of}
use Rattle.parts.specs.Series.{series}
use Rattle.parts.specs.declared.rings.Ring.{Ring}
use Rattle.series_graph.specs.Formula.{place_of, Formula, Combination, Dot, Quotient}
use Rattle.series_graph.specs.GraphValue.{GraphValue, size_of, IsIdOf}
use Rattle.series_graph.specs.Meaning.{AreMeanings}
use Rattle.series_graph.specs.declared.error.GraphError.{GraphError}
use Rattle.series_graph.specs.declared.node.NodeId.{NodeId}
use Rattle.intake.specs.declared.slots.Addend.{Addend}

module _ (S : SeriesRing) where
  abbrev pub meaning_of : (ℕ → Poly S) → Option NodeId → Poly S
  meaning_of f None = nought
  meaning_of f (Some id) = f (place_of id)

  abbrev pub slot_at : (ℕ → Poly S) → List NodeId → ℕ → Poly S
  slot_at f ids j = meaning_of f (slice_get ids j)

  abbrev pub Mean : ℕ → List Formula → List NodeId → Poly S → Type 0
  Mean D formulas ids v =
      (f : ℕ → Poly S) → AreMeanings S D formulas f → (j : ℕ) → slot_at f ids j ≡ y_coefficient j v

  abbrev pub Multiplies : ℕ → Bool → Poly S → Poly S → Poly S → Type 0
  Multiplies D divide u v w =
      MatchBool divide
      (HasNoPowerAbove 0 v × IsUnit S.modulus (constant_term v) × IsQuotient D u v w)
      (w ≡ truncated D (product u v))

abbrev pub AreIn : GraphValue → List NodeId → Type 0
AreIn graph ids = All (IsIdOf graph) ids

abbrev pub term_at : ℕ → Option NodeId → List (ℕ × NodeId)
term_at sign None = []
term_at sign (Some id) = (sign, id) ∷ []

abbrev pub terms_of : List Addend → ℕ → List (ℕ × NodeId)
terms_of [] j = []
terms_of (a ∷ addends) j = term_at a.sign (slice_get a.slots.items j) ++ terms_of addends j

abbrev pub pair_at : Option NodeId → Option NodeId → List (NodeId × NodeId)
pair_at None y = []
pair_at (Some x) None = []
pair_at (Some x) (Some y) = (x, y) ∷ []

abbrev pub pairs_to : List NodeId → List NodeId → ℕ → ℕ → List (NodeId × NodeId)
pairs_to a b j zero = []
pairs_to a b j (suc i) = pairs_to a b j i ++ pair_at (slice_get a i) (slice_get b (j - i))

abbrev pub each_to : ℕ → (ℕ → Formula) → List Formula
each_to zero g = []
each_to (suc n) g = each_to n g ++ g n ∷ []

abbrev pub sums_of : List Addend → ℕ → List Formula
sums_of addends n = each_to n (λ j. Combination (terms_of addends j))

abbrev pub products_of : List NodeId → List NodeId → ℕ → List Formula
products_of a b n = each_to n (λ j. Dot (pairs_to a b j (suc j)))

abbrev pub quotients_of : List NodeId → NodeId → List Formula
quotients_of a b = map (λ id. Quotient id b) a

pub record AddsEach (formulas : List Formula) (old new : GraphValue) (ids : List NodeId) : Type 0 where
  pub ring_is : new.ring ≡ old.ring
  pub formulas_are : new.formulas ≡ old.formulas ++ formulas
  pub count : length ids ≡ length formulas
  pub places : (j : ℕ) (id : NodeId) → slice_get ids j ≡ Some id → place_of id ≡ size_of old + j

abbrev pub IsFlatSlot : Result NodeId GraphError → List NodeId → Type 0
IsFlatSlot node ids = (id : NodeId) × (node ≡ Ok id) × (ids ≡ id ∷ [])

abbrev pub IsUnitAt : Ring → List Formula → NodeId → Type 0
IsUnitAt ring formulas id =
    (f : ℕ → Poly (series ring)) → AreMeanings (series ring) 0 formulas f
    → IsUnit (modulus_of ring) (constant_term (f (place_of id)))

pub record AddsSlots (n count : ℕ) (old new : GraphValue) (ids : List NodeId) : Type 0 where
  pub ring_is : new.ring ≡ old.ring
  pub added : List Formula
  pub formulas_are : new.formulas ≡ old.formulas ++ added
  pub nodes : length added ≡ n
  pub slots : length ids ≡ count
  pub within : AreIn new ids

abbrev pub DividesWell : Ring → Expr → Type 0
DividesWell ring e = DividesByUnits (series ring) (variable (series ring)) e

pub record Builds (e : Expr) (old new : GraphValue) (ids : List NodeId) : Type 0 where
  pub nodes : AddsSlots (node_count e) (suc (formal_degree e)) old new ids
  pub mean : (S : SeriesRing) → S.modulus ≡ modulus_of old.ring → (D : ℕ) (v : Poly S) → IsValue S D e v
      → Mean S D new.formulas ids v
