use Rattle.std.proofs.Common.{◌+◌, ◌-◌, ◌<◌, Bool, false, List, length, get_or, sym}
use Rattle.std.proofs.Common.{◌∙◌, ap, subst, arith}
use Rattle.std.proofs.lemmas.List.{get_or_default, length-map, take_at}
use Rattle.series_graph.specs.Formula.{Formula, formula_of, EachNamed}
use Rattle.series_graph.specs.Nodes.{formulas_in}
use Rattle.series_graph.specs.declared.node.Node.{Node}
use Rattle.series_graph.proofs.Named.{each-weaker}
use Rattle.series_graph.proofs.Covers.{Covers, covers-more, covers-all, formula_read}
use Rattle.series_graph.proofs.ancestors.ancestors_of.Goals as goal
use Rattle.series_graph.proofs.ancestors.ancestors_of.Goals.{After-deref_mut}

-- what the node names stands before it
earlier : (c : After-deref_mut) → EachNamed (λ j. j < c.loop-k.k - 1)
    (formula_of (get_or c.args.nodes.now (c.loop-k.k - 1) c.index-nodes-k.result).form)
earlier c =
    let lt : c.loop-k.k - 1 < length c.args.nodes.now = let n = c.requires.node in omega arith in
    subst (λ (φ : Formula). EachNamed (λ j. j < c.loop-k.k - 1) φ)
    (sym (formula_read c.args.nodes.now (c.loop-k.k - 1) c.index-nodes-k.result lt))
    (c.requires.earlier (c.loop-k.k - 1) lt)

pub mark_named-requires : goal.mark_named-requires
mark_named-requires c = each-weaker (λ j. j < c.loop-k.k - 1) (λ j. j < length c.deref_mut.result.now)
    (λ j lt. let n = c.loop-k.invariant.count in let m = ap length c.deref_mut.ensures.value in omega arith)
    (formula_of (get_or c.args.nodes.now (c.loop-k.k - 1) c.index-nodes-k.result).form)
    (earlier (goal.at.mark_named-requires c).After-deref_mut)

pub loop-k-preserved-then-index : goal.loop-k-preserved-then-index
loop-k-preserved-then-index c =
    let d = (goal.at.loop-k-preserved-then-index c).After-deref_mut in
    let lt : c.loop-k.k - 1 < length c.args.nodes.now = let n = c.requires.node in omega arith in
    let low : c.loop-k.k - 1 < length c.loop-k.marks.items = let n = c.loop-k.invariant.count in omega arith in
    subst (Covers (formulas_in c.args.nodes.now) c.args.i (c.loop-k.k - 1))
    (sym (take_at c.mark_named.new.marks _ c.loop-k.marks.len (c.mark_named.ensures.length ∙ c.deref_mut.ensures.len)))
    (covers-more (formulas_in c.args.nodes.now) c.args.i (c.loop-k.k - 1)
    (formula_of (get_or c.args.nodes.now (c.loop-k.k - 1) c.index-nodes-k.result).form)
    c.deref_mut.result.now c.mark_named.new.marks
    (subst (Covers (formulas_in c.args.nodes.now) c.args.i (c.loop-k.k - 1 + 1)) (sym c.deref_mut.ensures.value)
    (subst (λ n. Covers (formulas_in c.args.nodes.now) c.args.i n c.loop-k.marks.items) (omega arith)
    c.loop-k.invariant))
    (let n = length-map c.args.nodes.now (λ (n : Node). formula_of n.form) in omega arith)
    (formula_read c.args.nodes.now (c.loop-k.k - 1) c.index-nodes-k.result lt)
    (ap (λ (l : List Bool). get_or l (c.loop-k.k - 1) false) c.deref_mut.ensures.value
    ∙ get_or_default c.loop-k.marks.items (c.loop-k.k - 1) false c.index.result.now low ∙ sym c.index.ensures
    ∙ c.if-index.true)
    (earlier d) c.mark_named.ensures.length c.mark_named.ensures.named c.mark_named.ensures.kept
    c.mark_named.ensures.only)

pub returns-clause-ancestors : goal.returns-clause-ancestors
returns-clause-ancestors c = covers-all (formulas_in c.args.nodes.now) c.args.i c.loop-k.marks.items
    (subst (λ n. Covers (formulas_in c.args.nodes.now) c.args.i n c.loop-k.marks.items) (omega arith)
    c.loop-k.invariant)
