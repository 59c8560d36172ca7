-- The nodes of a graph, when one is written or put at the end: what contracts see of them.
use Rattle.std.proofs.Common.{◌≡◌, ℕ, ◌<◌, Bool, false, List, [], ◌∷◌, ◌++◌, map, length}
use Rattle.std.proofs.Common.{get_or, set}
use Rattle.std.proofs.Common.{sym, ◌∙◌, ap, subst}
use Rattle.std.specs.Prelude.{Result, Ok, Err, OnErr}
use Rattle.std.proofs.lemmas.List.{get_or-map, get_or_default, map-append, map-set, set-get_or}
use Rattle.parts.specs.PartValue.{PartValue}
use Rattle.parts.specs.declared.rings.Ring.{Ring}
use Rattle.series_graph.specs.Formula.{Formula, formula_of}
use Rattle.series_graph.specs.Meaning.{formula_at}
use Rattle.series_graph.specs.GraphValue.{GraphValue}
use Rattle.series_graph.specs.Nodes.{formulas_in, known_in, graph_of}
use Rattle.series_graph.specs.Calls.{Marks}
use Rattle.series_graph.specs.declared.node.Form.{Form}
use Rattle.series_graph.specs.declared.node.Node.{Node}
use Rattle.series_graph.proofs.Covers.{formula_read}
use Rattle.series_graph.proofs.Graphs.{with_part}
use Rattle.series_graph.proofs.KnownSums.{known_read}
use Rattle.series_graph.proofs.NodesAdded.{with_node}

-- the formula of a node whose form is known
pub form_at : (nodes : List Node) (i : ℕ) (x : Node) (form : Form) → i < length nodes → x ≡ get_or nodes i x
    → x.form ≡ form → formula_at (formulas_in nodes) i ≡ formula_of form
form_at nodes i x form lt is holds = sym (formula_read nodes i x lt) ∙ ap (λ (n : Node). formula_of n.form) (sym is)
    ∙ ap formula_of holds

-- its known parts
pub own_parts : (nodes : List Node) (i : ℕ) (x : Node) → i < length nodes → x ≡ get_or nodes i x
    → x.known ≡ get_or (known_in nodes) i []
own_parts nodes i x lt is = ap (λ (n : Node). n.known) is ∙ known_read nodes i x lt

module _ (nodes : List Node) (i : ℕ) (x y : Node) (lt : i < length nodes) (is : x ≡ get_or nodes i x) where
  field_same : {B : Type 0} (f : Node → B) → f y ≡ f x → map f (set nodes i y) ≡ map f nodes
  field_same f same = map-set f nodes i y
      ∙ ap (set (map f nodes) i) (same ∙ ap f is ∙ sym (get_or-map f nodes i x (f x) lt))
      ∙ set-get_or (map f nodes) i (f x)

  module _ (ring : Ring) (form : formula_of y.form ≡ formula_of x.form) (constant : y.constant ≡ x.constant) where
    pub node_kept : y.known ≡ x.known → graph_of ring (set nodes i y) ≡ graph_of ring nodes
    node_kept known = λ j. record {
      ring = ring;
      formulas = field_same (λ (n : Node). formula_of n.form) form j;
      constants = field_same (λ (n : Node). n.constant) constant j;
      known = field_same (λ (n : Node). n.known) known j;
    }

    pub node_learned : (part : PartValue) → y.known ≡ x.known ++ part ∷ []
        → graph_of ring (set nodes i y) ≡ with_part (graph_of ring nodes) i part
    node_learned part known = λ j. record {
      ring = ring;
      formulas = field_same (λ (n : Node). formula_of n.form) form j;
      constants = field_same (λ (n : Node). n.constant) constant j;
      known = (map-set (λ (n : Node). n.known) nodes i y ∙ ap (set (known_in nodes) i)
          (known ∙ ap (λ ps. ps ++ part ∷ []) (own_parts nodes i x lt is))) j;
    }

pub node_added : (ring : Ring) (nodes new : List Node) (y : Node) → new ≡ nodes ++ y ∷ [] → y.known ≡ []
    → graph_of ring new ≡ with_node (graph_of ring nodes) (formula_of y.form) y.constant
node_added ring nodes new y is none = ap (graph_of ring) is ∙ (λ j. record {
  ring = ring;
  formulas = map-append (λ (n : Node). formula_of n.form) nodes (y ∷ []) j;
  constants = map-append (λ (n : Node). n.constant) nodes (y ∷ []) j;
  known = (map-append (λ (n : Node). n.known) nodes (y ∷ []) ∙ ap (λ ps. known_in nodes ++ ps ∷ []) none) j;
})

-- the marks of a graph's nodes
pub marks_now : (ring : Ring) (nodes rows : List Node) (graph : GraphValue) (i : ℕ) (marks : List Bool)
    → rows ≡ nodes → graph_of ring nodes ≡ graph → Marks (formulas_in rows) i marks → Marks graph.formulas i marks
marks_now ring nodes rows graph i marks same view are = subst
    (λ (formulas : List Formula). Marks formulas i marks)
    (ap formulas_in same ∙ ap (λ (g : GraphValue). g.formulas) view) are

-- a mark that is read
pub mark_read : (marks : List Bool) (i : ℕ) (b : Bool) → i < length marks → b ≡ get_or marks i b
    → get_or marks i false ≡ b
mark_read marks i b lt is = get_or_default marks i false b lt ∙ sym is

-- what holds anyway holds after a refusal
pub on_err : {T E : Type 0} (result : Result T E) (P : Type 0) → P → OnErr result P
on_err (Ok x) P p = tt
on_err (Err e) P p = p
