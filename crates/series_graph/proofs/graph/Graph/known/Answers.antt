use Rattle.std.proofs.Common.{◌≤◌, length, subst, arith}
use Rattle.std.proofs.lemmas.Grind.{common_steps}
use Rattle.series_graph.specs.Formula.{place_of}
use Rattle.series_graph.specs.GraphValue.{known_at, IsGraph}
use Rattle.series_graph.proofs.graph.Graph.known.Goals as goal

pub overflow_cast-result : goal.overflow_cast-result
overflow_cast-result c =
    let few : length (known_at c.args.self.now (place_of c.args.id)) ≤ 4096 =
    (subst IsGraph c.self.view_is c.self.invariant).known_few (place_of c.args.id) in grind (arith, common_steps)

pub returns-clause-few : goal.returns-clause-few
returns-clause-few c =
    let few : length (known_at c.args.self.now (place_of c.args.id)) ≤ 4096 =
    (subst IsGraph c.self.view_is c.self.invariant).known_few (place_of c.args.id) in grind (arith, common_steps)
