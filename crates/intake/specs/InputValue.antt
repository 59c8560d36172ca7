-- What contracts see of an input without roots: the names of its variables, its ring and its tree.
--     IsInputOf modulus names weights e input      it has these, and its tree is e
--     IsInput input graph slots lead      the ring has a variable for each name, nothing is wrong with the tree, the
--         slots are those of its value, and lead is its leading number, None where that isn't known
--     IsValueRow input r row      the parts of degree r of its value, by power of Y from 0 to the formal degree
use Rattle.std.specs.Prelude.{◌≡◌, ℕ, suc, ◌≤◌, ◌↔◌, Option, Some, List, length, refl}
use Rattle.std.specs.Coded.{Coded, code_by, coded×, coded_ℕ, coded_list}
use Rattle.ps_model.specs.declared.expr.Expr.{Expr}
use Rattle.ps_model.specs.contracts.expr.Expr.{the_row as expr_row}
use Rattle.ps_model.specs.Input.{IsValidInput}
use Rattle.ps_model.specs.Rows.{IsRowOf}
use Rattle.ps_model.specs.SeriesRing.{SeriesRing, Poly}
use Rattle.ps_model.specs.Tree.{formal_degree, IsValidTree}
use Rattle.ps_model.specs.Value.{IsValue, HasLead}
use Rattle.parts.specs.PartValue.{PartValue}
use Rattle.parts.specs.Rings.{modulus_of, variables_of, eight_weights}
use Rattle.parts.specs.RowsOfParts.{IsRowOfParts}
use Rattle.parts.specs.Series.{series, row_maps}
use Rattle.parts.specs.contracts.rings.Ring.{the_row as ring_row}
use Rattle.parts.specs.declared.rings.Ring.{Ring}
use Rattle.residue.specs.Residues.{number_of}
use Rattle.residue.specs.declared.Modulus.{Modulus}
use Rattle.series_graph.specs.GraphValue.{GraphValue, size_of}
use Rattle.series_graph.specs.declared.node.NodeId.{NodeId}
use Rattle.intake.specs.Slots.{AreIn, Mean}

pub record InputValue : Type 0 where
  pub names : List (List ℕ)
  pub ring : Ring
  pub expr : Expr

abbrev pub input_code : Coded InputValue
input_code = code_by (List (List ℕ) × (Ring × Expr))
    (coded× (coded_list (coded_list coded_ℕ)) (coded× ring_row.coded expr_row.coded))
    (λ i. (i.names, (i.ring, i.expr))) (λ t. record { names = t.0; ring = t.1.0; expr = t.1.1 }) (λ _. refl)

pub record IsInputOf (modulus : Modulus) (names : List (List ℕ)) (weights : List ℕ) (e : Expr) (input : InputValue) :
    Type 0 where
  pub names_are : input.names ≡ names
  pub modulus_is : modulus_of input.ring ≡ number_of modulus
  pub variables_are : variables_of input.ring ≡ length names
  pub weights_are : eight_weights input.ring ≡ weights
  pub expr_is : input.expr ≡ e

pub record IsInput (input : InputValue) (graph : GraphValue) (slots : List NodeId) (lead : Option ℕ) : Type 0 where
  pub variables : variables_of input.ring ≡ length input.names
  pub tree : IsValidTree (length input.names) input.expr
  pub valid : IsValidInput (series input.ring) input.expr
  pub graph_ring : graph.ring ≡ input.ring
  pub few_nodes : size_of graph ≤ 4096
  pub slots_count : length slots ≡ suc (formal_degree input.expr)
  pub within : AreIn graph slots
  pub mean : (D : ℕ) (v : Poly (series input.ring)) → IsValue (series input.ring) D input.expr v
      → Mean (series input.ring) D graph.formulas slots v
  pub lead_is : (l : ℕ) → (lead ≡ Some l) ↔ HasLead (series input.ring) input.expr l

-- the parts of degree r of the value, for each power of Y up to the formal degree
pub record IsValueRow (input : InputValue) (r : ℕ) (row : List PartValue) : Type 0 where
  pub parts : IsRowOfParts input.ring (formal_degree input.expr) r row
  pub slices : (D : ℕ) (v : Poly (series input.ring)) → IsValue (series input.ring) D input.expr v → r ≤ D
      → IsRowOf (formal_degree input.expr) r v (row_maps input.ring row)
