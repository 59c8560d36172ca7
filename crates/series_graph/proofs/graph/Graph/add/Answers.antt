use Rattle.std.proofs.Common.{◌≡◌, ◌<◌, sym, ◌∙◌, ap, subst, arith}
use Rattle.std.proofs.lemmas.List.{length-map}
use Rattle.parts.specs.Rings.{modulus_of}
use Rattle.series_graph.specs.Formula.{formula_of}
use Rattle.series_graph.specs.GraphValue.{GraphValue, size_of, IsConstant, IsLawful, IsGraph}
use Rattle.series_graph.specs.Nodes.{graph_of}
use Rattle.series_graph.specs.declared.node.Node.{Node}
use Rattle.series_graph.proofs.NodesAdded.{with_node, node_graph}
use Rattle.series_graph.proofs.NodesKept.{node_added}
use Rattle.series_graph.proofs.graph.Graph.add.Goals as goal
use Rattle.series_graph.proofs.graph.Graph.add.Goals.{In_ok-push}

added : (c : In_ok-push) → graph_of c.self.inside.ring c.push.new.self.items
    ≡ with_node (graph_of c.self.inside.ring c.self.inside.nodes.items) (formula_of c.args.form) c.args.constant
added c = node_added c.self.inside.ring c.self.inside.nodes.items c.push.new.self.items
    (record { form = c.args.form; constant = c.args.constant; known = c.new.result }) c.in_ok-push.ensures.items
    c.new.ensures

pub invariant_of-self-2 : goal.invariant_of-self-2
invariant_of-self-2 c = subst IsGraph (sym (added c))
    (node_graph (graph_of c.self.inside.ring c.self.inside.nodes.items) (formula_of c.args.form) c.args.constant
    c.self.invariant
    (subst (λ (g : GraphValue). size_of g < 65536) (sym c.self.view_is) c.requires.room)
    (subst (λ (g : GraphValue). IsLawful g.ring g.constants (size_of g) (formula_of c.args.form)) (sym c.self.view_is)
    c.requires.lawful)
    (subst (λ (g : GraphValue). IsConstant (modulus_of g.ring) g.constants (formula_of c.args.form) c.args.constant)
    (sym c.self.view_is) c.requires.constant))

pub returns-clause-ok : goal.returns-clause-ok
returns-clause-ok c = record {
  constant = c.args.constant;
  place = let size = ap size_of c.self.view_is in
      let count = length-map c.self.inside.nodes.items (λ (n : Node). formula_of n.form) in
      let index = c.len-index.ensures in omega arith;
  new_is = added c ∙ ap (λ (g : GraphValue). with_node g (formula_of c.args.form) c.args.constant) c.self.view_is;
}
