use Rattle.std.proofs.Common.{◌≡◌, ◌<◌, inl, inr, [], length, get_or, refl, sym, ◌∙◌, ap, subst, arith}
use Rattle.std.specs.Arc.{arc_value}
use Rattle.parts.specs.PartValue.{PartValue, IsPartOf}
use Rattle.parts.specs.RowsOfParts.{part_in}
use Rattle.parts.specs.declared.rings.Ring.{Ring}
use Rattle.units.specs.SeriesParts.{IsPartAt}
use Rattle.series_graph.specs.Formula.{place_of}
use Rattle.series_graph.specs.Nodes.{known_in}
use Rattle.series_graph.specs.Sums.{IsPartWith}
use Rattle.series_graph.proofs.KnownSums.{multiples_known, multiples_are, multiples-none, multiples-more, multiples-one}
use Rattle.series_graph.proofs.KnownSums.{known_within, node_part}
use Rattle.series_graph.proofs.SumsSoFar.{sum-first, sum-all}
use Rattle.series_graph.proofs.formulas.combination_part.Goals as goal
use Rattle.series_graph.proofs.formulas.combination_part.Goals.{
  After-deref-in-loop-c,
  then-c-eq1-via-then-c-eq1,
  then-c-eq1-via-else-c-eq1+then-is_zero,
}

pub returns-then-c-eq1 : goal.returns-then-c-eq1
returns-then-c-eq1 c =
    let some : 0 < length c.args.of.now = omega arith in
    let there = c.requires.known 0 (0, record { index = 0 }) some in
    let read = node_part c.args.ring c.args.nodes.now c.requires.graph
    (place_of (get_or c.args.of.now 0 (0, record { index = 0 })).1) c.index-nodes-id.result
    (known_within c.args.nodes.now _ c.args.r there) c.args.r
    (arc_value c.part-part.result.now) there c.part-part.ensures in
    subst (λ q. IsPartWith c.args.ring c.args.r q (arc_value c.in_ok-try_clone.field-0))
    (multiples_are c.args.ring (known_in c.args.nodes.now) c.args.r c.args.of.now)
    (subst (λ (p : PartValue). IsPartWith c.args.ring c.args.r
    (multiples_known c.args.ring (known_in c.args.nodes.now) c.args.r c.args.of.now) p)
    (sym c.in_ok-try_clone.ensures)
    (multiples-one c.args.ring (known_in c.args.nodes.now) c.args.r c.args.of.now (0, record { index = 0 })
    (arc_value c.part-part.result.now) (omega arith) read.0 read.1
    (elim c.then-c-eq1.branch [
      | then-c-eq1-via-then-c-eq1 w ↦ inl w.if-c-eq1.true
      | then-c-eq1-via-else-c-eq1+then-is_zero w ↦ inr (ap (λ (p : PartValue). p.map) (sym w.deref.ensures)
          ∙ w.is_zero.ensures.0 w.if-is_zero.true)
    ])))

pub loop-c-init : goal.loop-c-init
loop-c-init c = sum-first c.args.ring c.args.r
    (multiples_known c.args.ring (known_in c.args.nodes.now) c.args.r c.args.of.now) c.new-sum.result c.new-sum.ensures

pub bounds-nodes-id-in-loop-c : goal.bounds-nodes-id-in-loop-c
bounds-nodes-id-in-loop-c c = known_within c.args.nodes.now _ c.args.r
    (c.requires.known c.loop-c.c-index (0, record { index = 0 }) c.loop-c-test.true)

term : (c : After-deref-in-loop-c) → (c.deref-in-loop-c.result.now ≡ part_in (get_or (known_in c.args.nodes.now)
    (place_of (get_or c.args.of.now c.loop-c.c-index (0, record { index = 0 })).1) []) c.args.r)
    × IsPartAt c.args.ring c.args.r c.deref-in-loop-c.result.now
term c =
    let there = c.requires.known c.loop-c.c-index (0, record { index = 0 }) c.loop-c-test.true in
    node_part c.args.ring c.args.nodes.now c.requires.graph
    (place_of (get_or c.args.of.now c.loop-c.c-index (0, record { index = 0 })).1) c.index-nodes-id-in-loop-c.result
    (known_within c.args.nodes.now _ c.args.r there) c.args.r
    c.deref-in-loop-c.result.now there (c.deref-in-loop-c.ensures ∙ c.part.ensures)

pub add_multiple-requires-clause-degrees : goal.add_multiple-requires-clause-degrees
add_multiple-requires-clause-degrees c =
    (term (goal.at.add_multiple-requires-clause-degrees c).After-deref-in-loop-c).1.0
    ∙ sym c.loop-c.invariant.degree_is

pub add_multiple-requires-clause-part : goal.add_multiple-requires-clause-part
add_multiple-requires-clause-part c = subst (λ (R : Ring). IsPartOf R c.deref-in-loop-c.result.now)
    (sym c.loop-c.invariant.ring_is)
    (term (goal.at.add_multiple-requires-clause-part c).After-deref-in-loop-c).1.1

pub loop-c-preserved : goal.loop-c-preserved
loop-c-preserved c = multiples-more c.args.ring (known_in c.args.nodes.now) c.args.r c.args.of.now c.loop-c.c-index
    (0, record { index = 0 }) c.loop-c.sum c.add_multiple.new.sum c.deref-in-loop-c.result.now c.loop-c-test.true
    c.loop-c.invariant (term (goal.at.loop-c-preserved c).After-deref-in-loop-c).0
    c.in_ok-add_multiple.ensures

pub returns : goal.returns
returns c = subst (λ q. IsPartWith c.args.ring c.args.r q (arc_value c.in_ok-new.field-0))
    (multiples_are c.args.ring (known_in c.args.nodes.now) c.args.r c.args.of.now)
    (subst (λ (p : PartValue). IsPartWith c.args.ring c.args.r
    (multiples_known c.args.ring (known_in c.args.nodes.now) c.args.r c.args.of.now) p)
    (sym c.in_ok-new.ensures.ok)
    (sum-all c.args.ring c.args.r (multiples_known c.args.ring (known_in c.args.nodes.now) c.args.r c.args.of.now) _
    c.loop-c.sum c.in_ok-finish.field-0
    (multiples-none c.args.ring (known_in c.args.nodes.now) c.args.r c.args.of.now c.loop-c.c-index (omega arith))
    c.loop-c.invariant c.in_ok-finish.ensures.degree c.in_ok-finish.ensures.map c.in_ok-finish.ensures.part))
