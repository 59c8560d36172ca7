use Rattle.std.proofs.Common.{◌<◌, length, subst, arith}
use Rattle.series_graph.specs.GraphValue.{IsGraph}
use Rattle.series_graph.proofs.Extended.{raised-more}
use Rattle.series_graph.proofs.graph.Graph.extend_node.Goals as goal

pub loop-preserved : goal.loop-preserved
loop-preserved c =
    let there : c.args.i < length c.loop.self.known =
    let count = c.loop.invariant.keeps.count in
    let whole = (subst IsGraph c.self.view_is c.self.invariant).known_count in
    let node = c.requires.node in omega arith in
    raised-more c.args.i c.loop.counter c.args.self.now c.loop.self c.learn.new.self there c.loop.invariant
    c.in_ok-learn.ensures.ok
