-- What a node is made of.
--     place_of id      the place of a node in its graph's list
--     Formula      a number; a variable; the sum of numbers times nodes; the sum of products of two nodes;
--         the quotient of two nodes
--     formula_of form      the formula that a node's code holds
--     EachNamed P formula      P holds at the place of each node that is named; so of a number or a variable
use Rattle.std.specs.Prelude.{ℕ, List}
use Rattle.std.specs.List.{All}
use Rattle.series_graph.specs.declared.node.NodeId.{NodeId}
use Rattle.series_graph.specs.declared.node.Form.{Form}
use Rattle.series_graph.specs.declared.node.Form.TheVariants as form

abbrev pub place_of : NodeId → ℕ
place_of id = id.index

pub data Formula : Type 0 where
  Number : ℕ → Formula
  Variable : ℕ → Formula
  Combination : List (ℕ × NodeId) → Formula
  Dot : List (NodeId × NodeId) → Formula
  Quotient : NodeId → NodeId → Formula

abbrev pub formula_of : Form → Formula
formula_of (form.Number c) = Number c
formula_of (form.Variable i) = Variable i
formula_of (form.Combination of) = Combination of.items
formula_of (form.Dot of) = Dot of.items
formula_of (form.Quotient a b) = Quotient a b

abbrev pub EachNamed : (ℕ → Type 0) → Formula → Type 0
EachNamed P (Number c) = Unit {0}
EachNamed P (Variable i) = Unit {0}
EachNamed P (Combination of) = All (λ t. P (place_of t.1)) of
EachNamed P (Dot of) = All (λ t. P (place_of t.0) × P (place_of t.1)) of
EachNamed P (Quotient a b) = P (place_of a) × P (place_of b)
