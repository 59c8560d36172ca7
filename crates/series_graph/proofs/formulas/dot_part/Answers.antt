use Rattle.std.proofs.Common.{get_or, sym, subst, arith}
use Rattle.parts.specs.declared.rings.Ring.{Ring}
use Rattle.units.specs.SeriesParts.{AreSeriesParts}
use Rattle.series_graph.specs.Formula.{place_of}
use Rattle.series_graph.specs.Nodes.{known_in}
use Rattle.series_graph.specs.Sums.{products_known}
use Rattle.series_graph.proofs.KnownSums.{known_read, known_within, node_parts, dots-none, dots-more}
use Rattle.series_graph.proofs.SumsSoFar.{sum-first, sum-all}
use Rattle.series_graph.proofs.formulas.dot_part.Goals as goal

pub loop-a-init : goal.loop-a-init
loop-a-init c = sum-first c.args.ring c.args.r
    (products_known c.args.ring (known_in c.args.nodes.now) c.args.r c.args.of.now) c.new-sum.result c.new-sum.ensures

pub add_product_part-requires-clause-a_parts : goal.add_product_part-requires-clause-a_parts
add_product_part-requires-clause-a_parts c =
    let more = c.requires.known c.loop-a.a-index (record { index = 0 }, record { index = 0 }) c.loop-a-test.true in
    subst (λ (R : Ring). AreSeriesParts R (get_or c.args.nodes.now
    (place_of (get_or c.args.of.now c.loop-a.a-index (record { index = 0 }, record { index = 0 })).0)
    c.index-nodes-a.result).known) (sym c.loop-a.invariant.ring_is)
    (node_parts c.args.ring c.args.nodes.now c.requires.graph _ c.index-nodes-a.result
    (known_within c.args.nodes.now _ c.args.r more.0))

pub add_product_part-requires-clause-b_parts : goal.add_product_part-requires-clause-b_parts
add_product_part-requires-clause-b_parts c =
    let more = c.requires.known c.loop-a.a-index (record { index = 0 }, record { index = 0 }) c.loop-a-test.true in
    subst (λ (R : Ring). AreSeriesParts R (get_or c.args.nodes.now
    (place_of (get_or c.args.of.now c.loop-a.a-index (record { index = 0 }, record { index = 0 })).1)
    c.index-nodes-b.result).known) (sym c.loop-a.invariant.ring_is)
    (node_parts c.args.ring c.args.nodes.now c.requires.graph _ c.index-nodes-b.result
    (known_within c.args.nodes.now _ c.args.r more.1))

pub loop-a-preserved : goal.loop-a-preserved
loop-a-preserved c =
    let more = c.requires.known c.loop-a.a-index (record { index = 0 }, record { index = 0 }) c.loop-a-test.true in
    dots-more c.args.ring (known_in c.args.nodes.now) c.args.r c.args.of.now c.loop-a.a-index
    (record { index = 0 }, record { index = 0 }) c.loop-a.sum c.add_product_part.new.sum
    (get_or c.args.nodes.now
    (place_of (get_or c.args.of.now c.loop-a.a-index (record { index = 0 }, record { index = 0 })).0)
    c.index-nodes-a.result).known
    (get_or c.args.nodes.now
    (place_of (get_or c.args.of.now c.loop-a.a-index (record { index = 0 }, record { index = 0 })).1)
    c.index-nodes-b.result).known c.loop-a-test.true c.loop-a.invariant
    (known_read c.args.nodes.now _ c.index-nodes-a.result (known_within c.args.nodes.now _ c.args.r more.0))
    (known_read c.args.nodes.now _ c.index-nodes-b.result (known_within c.args.nodes.now _ c.args.r more.1))
    c.in_ok-add_product_part.ensures

pub returns : goal.returns
returns c = sum-all c.args.ring c.args.r
    (products_known c.args.ring (known_in c.args.nodes.now) c.args.r c.args.of.now) _ c.loop-a.sum
    c.in_ok-finish.field-0
    (dots-none c.args.ring (known_in c.args.nodes.now) c.args.r c.args.of.now c.loop-a.a-index (omega arith))
    c.loop-a.invariant c.in_ok-finish.ensures.degree c.in_ok-finish.ensures.map c.in_ok-finish.ensures.part
