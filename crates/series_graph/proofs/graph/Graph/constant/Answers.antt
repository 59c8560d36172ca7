use Rattle.std.proofs.Common.{◌≡◌, ◌<◌, subst, sym, ◌∙◌, arith}
use Rattle.std.proofs.lemmas.Grind.{common_steps}
use Rattle.parts.specs.Rings.{modulus_of}
use Rattle.series_graph.specs.Formula.{place_of}
use Rattle.series_graph.specs.GraphValue.{constant_at, IsGraph}
use Rattle.series_graph.proofs.GraphMeanings.{graph_means, graph_constant, graph_residue}
use Rattle.series_graph.proofs.graph.Graph.constant.Goals as goal
use Rattle.series_graph.proofs.graph.Graph.constant.Goals.{After-index}

value : (c : After-index) → c.index.result.now.constant ≡ constant_at c.args.self.now (place_of c.args.id)
value c = grind (arith, common_steps)

pub returns-clause-residue : goal.returns-clause-residue
returns-clause-residue c = subst (λ n. n < modulus_of c.args.self.now.ring)
    (sym (value (goal.at.returns-clause-residue c).After-index))
    (graph_residue c.args.self.now (subst IsGraph c.self.view_is c.self.invariant) (place_of c.args.id) c.requires)

pub returns-clause-meaning : goal.returns-clause-meaning
returns-clause-meaning c =
    graph_means c.args.self.now (subst IsGraph c.self.view_is c.self.invariant) (place_of c.args.id) c.requires

pub returns-clause-term : goal.returns-clause-term
returns-clause-term c = λ D p means. value (goal.at.returns-clause-term c).After-index
    ∙ graph_constant c.args.self.now (subst IsGraph c.self.view_is c.self.invariant) (place_of c.args.id) c.requires D p
    means
