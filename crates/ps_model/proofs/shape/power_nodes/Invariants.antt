use Rattle.std.proofs.Common.{◌≡◌, min, ◌+◌, ◌-◌, ◌≤◌}
use Rattle.ps_model.specs.Tree.{power_nodes}
use Rattle.ps_model.proofs.shape.power_nodes.Given as goal

abbrev pub invariant-loop-i : goal.invariant-loop-i
invariant-loop-i l = record {
  within : l.count ≤ 4294967295;
  same : l.count ≡ min (l.nodes + power_nodes l.degree (l.i - 1)) 4294967295;
}
