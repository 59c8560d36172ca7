use Rattle.std.proofs.Common.{◌≡◌, min, max, ◌+◌, ◌≤◌, drop, true}
use Rattle.ps_model.specs.Tree.{formal_degree}
use Rattle.ps_model.proofs.TreeLists.{greatest_of, degree_of_all, nodes_of_all, nodes_from}
use Rattle.ps_model.proofs.shape.+shape_of.Given as goal

abbrev pub invariant-loop-summand : goal.invariant-loop-summand
invariant-loop-summand l = record {
  within : l.nodes ≤ 4294967295;
  greatest : max l.degree (min (greatest_of (drop l.summand-index l.summand-items)) 18446744073709551615)
      ≡ min (formal_degree l.expr) 18446744073709551615;
  same : min (l.nodes + nodes_of_all (drop l.summand-index l.summand-items)) 4294967295
      ≡ min (nodes_of_all l.summand-items) 4294967295;
}

abbrev pub invariant-loop-factor : goal.invariant-loop-factor
invariant-loop-factor l = record {
  bounded : l.degree ≤ 18446744073709551615;
  total : min (l.degree + degree_of_all (drop l.factor-index l.factor-items)) 18446744073709551615
      ≡ min (formal_degree l.expr) 18446744073709551615;
  within : l.nodes ≤ 4294967295;
  running : l.running ≤ 4294967295;
  first : l.first ≡ true → l.nodes ≡ 0;
  same : min (l.nodes + nodes_from l.first l.running (drop l.factor-index l.factor-items)) 4294967295
      ≡ min (nodes_from true 0 l.factor-items) 4294967295;
}
