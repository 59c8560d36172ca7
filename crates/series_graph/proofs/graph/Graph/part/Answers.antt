use Rattle.std.proofs.Common.{◌≡◌, subst, sym, arith}
use Rattle.std.proofs.lemmas.Grind.{common_steps}
use Rattle.std.specs.Arc.{arc_value}
use Rattle.parts.specs.RowsOfParts.{part_in}
use Rattle.series_graph.specs.Formula.{place_of}
use Rattle.series_graph.specs.GraphValue.{known_at, IsGraph, IsKnownPart}
use Rattle.series_graph.proofs.GraphMeanings.{graph_means}
use Rattle.series_graph.proofs.graph.Graph.part.Goals as goal
use Rattle.series_graph.proofs.graph.Graph.part.Goals.{After-part}

value : (c : After-part)
    → arc_value c.part.result.now ≡ part_in (known_at c.args.self.now (place_of c.args.id)) c.args.r
value c = grind (arith, common_steps)

pub returns-clause-part : goal.returns-clause-part
returns-clause-part c = subst (IsKnownPart c.args.self.now.ring c.args.self.now.formulas (place_of c.args.id) c.args.r)
    (sym (value (goal.at.returns-clause-part c).After-part))
    ((subst IsGraph c.self.view_is c.self.invariant).known_are (place_of c.args.id) c.args.r c.requires.id
    c.requires.known)

pub returns-clause-meaning : goal.returns-clause-meaning
returns-clause-meaning c =
    graph_means c.args.self.now (subst IsGraph c.self.view_is c.self.invariant) (place_of c.args.id) c.requires.id
