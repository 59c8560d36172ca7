use Rattle.std.proofs.Common.{List, subst, sym}
use Rattle.ps_model.specs.declared.expr.Expr.{MainVariable}
use Rattle.series_graph.specs.Calls.{AddsNode}
use Rattle.series_graph.specs.Formula.{Number}
use Rattle.series_graph.specs.declared.node.NodeId.{NodeId}
use Rattle.intake.specs.Slots.{Builds}
use Rattle.intake.proofs.Leaves.{y_built}
use Rattle.intake.proofs.SlotSteps.{answered}
use Rattle.intake.proofs.building.main_variable.Goals as goal

pub returns : goal.returns
returns c = subst (λ (ids : List NodeId). Builds MainVariable c.args.graph.now c.number-2.new.self ids)
    (sym c.in_ok-vec.ensures.items) (y_built c.args.graph.now c.number.new.self c.number-2.new.self c.in_ok-zero.zero
    c.in_ok-one.one
    (answered (AddsNode (Number 0) c.args.graph.now c.number.new.self) c.number.result c.in_ok-zero.zero
    c.number.ensures.ok c.in_ok-zero.ensures)
    (answered (AddsNode (Number 1) c.number.new.self c.number-2.new.self) c.number-2.result c.in_ok-one.one
    c.number-2.ensures.ok c.in_ok-one.ensures))
