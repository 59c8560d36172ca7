use Rattle.std.proofs.Common.{◌≡◌, ℕ, ◌<◌, true, List, length, sym, subst}
use Rattle.std.specs.List.{All}
use Rattle.series_graph.specs.Formula.{place_of, formula_of, EachNamed}
use Rattle.series_graph.specs.declared.node.Form.{Form}
use Rattle.series_graph.specs.declared.node.NodeId.{NodeId}
use Rattle.series_graph.proofs.Marked.{IsMarking, combination-more, combination-all, dot-more, dot-all}
use Rattle.series_graph.proofs.ancestors.mark_named.Goals as goal
use Rattle.series_graph.proofs.ancestors.mark_named.Goals.{After-loop-id, After-loop-a}

pub loop-id-preserved : goal.loop-id-preserved
loop-id-preserved c = combination-more c.deref-id-items.result.now c.loop-id.id-index (0, record { index = 0 })
    c.args.marks.now c.loop-id.marks c.loop-id-test.true
    (subst (λ (of : List (ℕ × NodeId)). All (λ t. place_of t.1 < length c.args.marks.now) of)
    (sym c.deref-id-items.ensures.value)
    (subst (λ (f : Form). EachNamed (λ j. j < length c.args.marks.now) (formula_of f)) c.in-Combination.is c.requires)
    c.loop-id.id-index (0, record { index = 0 }) c.loop-id-test.true)
    c.loop-id.invariant

pub loop-a-preserved : goal.loop-a-preserved
loop-a-preserved c = dot-more c.deref-a-items.result.now c.loop-a.a-index (record { index = 0 }, record { index = 0 })
    c.args.marks.now c.loop-a.marks c.loop-a-test.true
    (subst (λ (of : List (NodeId × NodeId)). All (λ t. (place_of t.0 < length c.args.marks.now)
    × (place_of t.1 < length c.args.marks.now)) of) (sym c.deref-a-items.ensures.value)
    (subst (λ (f : Form). EachNamed (λ j. j < length c.args.marks.now) (formula_of f)) c.in-Dot.is c.requires)
    c.loop-a.a-index (record { index = 0 }, record { index = 0 }) c.loop-a-test.true)
    c.loop-a.invariant

combination_marked : (c : After-loop-id) → IsMarking (λ has. EachNamed (λ j. has j ≡ true) (formula_of c.args.form.now))
    c.args.marks.now c.loop-id.marks
combination_marked c = subst (λ (f : Form). IsMarking (λ has. EachNamed (λ j. has j ≡ true) (formula_of f))
    c.args.marks.now c.loop-id.marks) (sym c.in-Combination.is)
    (subst (λ (of : List (ℕ × NodeId)). IsMarking (λ has. All (λ t. has (place_of t.1) ≡ true) of)
    c.args.marks.now c.loop-id.marks) c.deref-id-items.ensures.value
    (combination-all c.deref-id-items.result.now c.loop-id.id-index c.args.marks.now c.loop-id.marks
    c.loop-id-test.false c.loop-id.invariant))

dot_marked : (c : After-loop-a) → IsMarking (λ has. EachNamed (λ j. has j ≡ true) (formula_of c.args.form.now))
    c.args.marks.now c.loop-a.marks
dot_marked c = subst (λ (f : Form). IsMarking (λ has. EachNamed (λ j. has j ≡ true) (formula_of f))
    c.args.marks.now c.loop-a.marks) (sym c.in-Dot.is)
    (subst (λ (of : List (NodeId × NodeId)). IsMarking
    (λ has. All (λ t. (has (place_of t.0) ≡ true) × (has (place_of t.1) ≡ true)) of)
    c.args.marks.now c.loop-a.marks) c.deref-a-items.ensures.value
    (dot-all c.deref-a-items.result.now c.loop-a.a-index c.args.marks.now c.loop-a.marks
    c.loop-a-test.false c.loop-a.invariant))

pub returns-after-loop-id-clause-named : goal.returns-after-loop-id-clause-named
returns-after-loop-id-clause-named c = (combination_marked c).named

pub returns-after-loop-id-clause-only : goal.returns-after-loop-id-clause-only
returns-after-loop-id-clause-only c = (combination_marked c).only

pub returns-after-loop-a-clause-named : goal.returns-after-loop-a-clause-named
returns-after-loop-a-clause-named c = (dot_marked c).named

pub returns-after-loop-a-clause-only : goal.returns-after-loop-a-clause-only
returns-after-loop-a-clause-only c = (dot_marked c).only
