use Rattle.std.proofs.Common.{◌≡◌, ◌<◌, ◌≤◌, List, length, set, refl, sym, ◌∙◌, ap, subst, arith}
use Rattle.std.proofs.lemmas.List.{length-map}
use Rattle.std.specs.Arc.{arc_value}
use Rattle.series_graph.specs.Formula.{formula_of, EachNamed}
use Rattle.series_graph.specs.Meaning.{formula_at}
use Rattle.series_graph.specs.GraphValue.{GraphValue, size_of, known_at, IsKnownPart, IsGraph}
use Rattle.series_graph.specs.Nodes.{formulas_in, graph_of}
use Rattle.series_graph.specs.declared.node.Node.{Node}
use Rattle.series_graph.proofs.Graphs.{with_part, part_graph}
use Rattle.series_graph.proofs.NodesKept.{node_kept, node_learned, on_err}
use Rattle.series_graph.proofs.graph.Graph.learn.Goals as goal
use Rattle.series_graph.proofs.graph.Graph.learn.Goals.{After-push, In_ok-push}

-- the node is there
there : (c : After-push) → c.args.i < length c.self.inside.nodes.items
there c =
    let size = ap size_of c.self.view_is in
    let count = length-map c.self.inside.nodes.items (λ (n : Node). formula_of n.form) in
    let node = c.requires.node in omega arith

pub invariant_of-self : goal.invariant_of-self
invariant_of-self c = subst IsGraph (sym (node_kept c.self.inside.nodes.items c.args.i c.index_mut.result.now
    (record {
      form = c.index_mut.result.now.form;
      constant = c.index_mut.result.now.constant;
      known = c.push.new.self;
    }) (there (goal.at.invariant_of-self c).After-push) c.index_mut.ensures.value c.self.inside.ring refl refl
    c.in_err-push.ensures.err)) c.self.invariant

pub returns-in_err-push-clause-err : goal.returns-in_err-push-clause-err
returns-in_err-push-clause-err c = on_err c.from_residual-in_err-push.result _
    (node_kept c.self.inside.nodes.items c.args.i c.index_mut.result.now
    (record {
      form = c.index_mut.result.now.form;
      constant = c.index_mut.result.now.constant;
      known = c.push.new.self;
    }) (there (goal.at.returns-in_err-push-clause-err c).After-push) c.index_mut.ensures.value c.self.inside.ring refl
    refl c.in_err-push.ensures.err ∙ c.self.view_is)

learned : (c : In_ok-push) → c.args.i < length c.self.inside.nodes.items
    → graph_of c.self.inside.ring (set c.self.inside.nodes.items c.args.i (record {
      form = c.index_mut.result.now.form;
      constant = c.index_mut.result.now.constant;
      known = c.push.new.self;
    })) ≡ with_part (graph_of c.self.inside.ring c.self.inside.nodes.items) c.args.i (arc_value c.in_ok-part.part)
learned c lt = node_learned c.self.inside.nodes.items c.args.i c.index_mut.result.now (record {
  form = c.index_mut.result.now.form;
  constant = c.index_mut.result.now.constant;
  known = c.push.new.self;
}) lt c.index_mut.ensures.value c.self.inside.ring refl refl (arc_value c.in_ok-part.part) c.in_ok-push.ensures.ok

pub invariant_of-self-2 : goal.invariant_of-self-2
invariant_of-self-2 c =
    let lt = there (goal.at.invariant_of-self-2 c).After-push in
    subst IsGraph (sym (learned c lt))
    (part_graph (graph_of c.self.inside.ring c.self.inside.nodes.items) c.args.i (arc_value c.in_ok-part.part)
    c.self.invariant (subst (λ (g : GraphValue). c.args.i < size_of g) (sym c.self.view_is) c.requires.node)
    (subst (λ (g : GraphValue). length (known_at g c.args.i) ≤ 4095) (sym c.self.view_is) c.requires.permitted)
    (subst (λ (g : GraphValue). EachNamed (λ j. length (known_at g c.args.i) < length (known_at g j))
    (formula_at g.formulas c.args.i)) (sym c.self.view_is) c.requires.named)
    (subst (λ (nodes : List Node). IsKnownPart c.self.inside.ring (formulas_in nodes) c.args.i
    (length (known_at (graph_of c.self.inside.ring nodes) c.args.i)) (arc_value c.in_ok-part.part))
    c.deref.ensures.value c.in_ok-part.ensures))

pub returns-clause-ok : goal.returns-clause-ok
returns-clause-ok c = record {
  part = arc_value c.in_ok-part.part;
  new_is = learned c (there (goal.at.returns-clause-ok c).After-push)
      ∙ ap (λ (g : GraphValue). with_part g c.args.i (arc_value c.in_ok-part.part)) c.self.view_is;
}
