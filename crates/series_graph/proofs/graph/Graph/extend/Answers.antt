use Rattle.std.proofs.Common.{suc, ◌+◌, ◌<◌, length, sym, ◌∙◌, subst, arith}
use Rattle.series_graph.specs.Formula.{place_of}
use Rattle.series_graph.specs.Meaning.{formula_at}
use Rattle.series_graph.specs.GraphValue.{size_of, IsGraph}
use Rattle.series_graph.proofs.Named.{names_earlier}
use Rattle.series_graph.proofs.Graphs.{rests_known}
use Rattle.series_graph.proofs.Extended.{IsExtended, extended-skip, extended-more, extended_kept}
use Rattle.series_graph.proofs.Extended.{extended_named, extended-all}
use Rattle.series_graph.proofs.NodesKept.{marks_now, mark_read}
use Rattle.series_graph.proofs.graph.Graph.extend.Goals as goal
use Rattle.series_graph.proofs.graph.Graph.extend.Goals.{then-index+in_ok-extend_node, else-index}

pub returns-then-known-to-clause-ok : goal.returns-then-known-to-clause-ok
returns-then-known-to-clause-ok c = λ h lt rests.
    rests_known c.args.self.now (place_of c.args.id) h (suc c.args.to) (subst IsGraph c.self.view_is c.self.invariant)
    (let count = c.known.ensures.count in let more = c.if-known-to.true in omega arith) rests

pub extend_node-requires-clause-named : goal.extend_node-requires-clause-named
extend_node-requires-clause-named c =
    let graph = subst IsGraph c.self.view_is c.self.invariant in
    let inside : c.loop-i.i < size_of c.args.self.now = let id = c.requires.id in omega arith in
    let within : c.loop-i.i < length c.in_ok-marks.marks.items = let n = c.in_ok-marks.ensures.length in omega arith in
    extended_named (place_of c.args.id) c.args.to c.loop-i.i c.in_ok-marks.marks.items c.args.self.now c.loop-i.self
    c.loop-i.invariant
    (marks_now c.self.inside.ring c.self.inside.nodes.items c.deref.result.now c.args.self.now (place_of c.args.id)
    c.in_ok-marks.marks.items c.deref.ensures.value c.self.view_is c.in_ok-marks.ensures.ancestors)
    (mark_read c.in_ok-marks.marks.items c.loop-i.i c.index.result.now within c.index.ensures ∙ c.if-index.true)
    inside
    (names_earlier c.args.self.now.ring c.args.self.now.constants c.loop-i.i
    (formula_at c.args.self.now.formulas c.loop-i.i) (graph.lawful c.loop-i.i inside))

pub returns-in_err-extend_node-clause-kept : goal.returns-in_err-extend_node-clause-kept
returns-in_err-extend_node-clause-kept c =
    let within : c.loop-i.i < length c.in_ok-marks.marks.items = let n = c.in_ok-marks.ensures.length in omega arith in
    (extended_kept (place_of c.args.id) c.args.to c.loop-i.i c.in_ok-marks.marks.items c.args.self.now c.loop-i.self
    c.extend_node.new.self c.loop-i.invariant
    (marks_now c.self.inside.ring c.self.inside.nodes.items c.deref.result.now c.args.self.now (place_of c.args.id)
    c.in_ok-marks.marks.items c.deref.ensures.value c.self.view_is c.in_ok-marks.ensures.ancestors)
    (mark_read c.in_ok-marks.marks.items c.loop-i.i c.index.result.now within c.index.ensures ∙ c.if-index.true)
    c.in_err-extend_node.ensures.kept c.in_err-extend_node.ensures.others).0

pub returns-in_err-extend_node-clause-others : goal.returns-in_err-extend_node-clause-others
returns-in_err-extend_node-clause-others c =
    let within : c.loop-i.i < length c.in_ok-marks.marks.items = let n = c.in_ok-marks.ensures.length in omega arith in
    (extended_kept (place_of c.args.id) c.args.to c.loop-i.i c.in_ok-marks.marks.items c.args.self.now c.loop-i.self
    c.extend_node.new.self c.loop-i.invariant
    (marks_now c.self.inside.ring c.self.inside.nodes.items c.deref.result.now c.args.self.now (place_of c.args.id)
    c.in_ok-marks.marks.items c.deref.ensures.value c.self.view_is c.in_ok-marks.ensures.ancestors)
    (mark_read c.in_ok-marks.marks.items c.loop-i.i c.index.result.now within c.index.ensures ∙ c.if-index.true)
    c.in_err-extend_node.ensures.kept c.in_err-extend_node.ensures.others).1

pub loop-i-preserved : goal.loop-i-preserved
loop-i-preserved c =
    let within : c.loop-i.i < length c.in_ok-marks.marks.items = let n = c.in_ok-marks.ensures.length in omega arith in
    elim c.if-index.branch [
      | then-index+in_ok-extend_node w ↦ subst (IsExtended (place_of c.args.id) c.args.to (c.loop-i.i + 1)
          c.in_ok-marks.marks.items c.args.self.now) (sym w.self-is)
          (extended-more (place_of c.args.id) c.args.to c.loop-i.i c.in_ok-marks.marks.items c.args.self.now
          c.loop-i.self w.extend_node.new.self c.loop-i.invariant
          (marks_now c.self.inside.ring c.self.inside.nodes.items c.deref.result.now c.args.self.now
          (place_of c.args.id) c.in_ok-marks.marks.items c.deref.ensures.value c.self.view_is
          c.in_ok-marks.ensures.ancestors)
          (mark_read c.in_ok-marks.marks.items c.loop-i.i c.index.result.now within c.index.ensures ∙ w.if-index.true)
          w.in_ok-extend_node.ensures.kept w.in_ok-extend_node.ensures.others w.in_ok-extend_node.ensures.ok)
      | else-index w ↦ subst (IsExtended (place_of c.args.id) c.args.to (c.loop-i.i + 1)
          c.in_ok-marks.marks.items c.args.self.now) (sym w.self-is)
          (extended-skip (place_of c.args.id) c.args.to c.loop-i.i c.in_ok-marks.marks.items c.args.self.now
          c.loop-i.self c.loop-i.invariant
          (mark_read c.in_ok-marks.marks.items c.loop-i.i c.index.result.now within c.index.ensures ∙ w.if-index.false))
    ]

pub returns-clause-ok : goal.returns-clause-ok
returns-clause-ok c = extended-all (place_of c.args.id) c.args.to c.loop-i.i c.in_ok-marks.marks.items
    c.args.self.now c.loop-i.self c.loop-i.invariant
    (marks_now c.self.inside.ring c.self.inside.nodes.items c.deref.result.now c.args.self.now (place_of c.args.id)
    c.in_ok-marks.marks.items c.deref.ensures.value c.self.view_is c.in_ok-marks.ensures.ancestors)
    (let n = c.in_ok-marks.ensures.length in omega arith)
