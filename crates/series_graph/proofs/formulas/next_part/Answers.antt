use Rattle.std.proofs.Common.{sym, subst}
use Rattle.std.specs.Arc.{arc_value}
use Rattle.std.proofs.lemmas.Result.{IfOk-weaker}
use Rattle.series_graph.proofs.NextRead.{IsNextPart, next_is_number, next_is_variable, next_is_combination, next_is_dot}
use Rattle.series_graph.proofs.NextRead.{dot_known, next_is_quotient, quotient_enough, quotient_unit, quotient_parts}
use Rattle.series_graph.proofs.NextRead.{quotient_own}
use Rattle.series_graph.proofs.formulas.next_part.Goals as goal
use Rattle.series_graph.proofs.formulas.next_part.Goals.{
  in-Number+in_ok-part-in-Number,
  in-Variable+in_ok-part-in-Variable,
  in-Dot+in_ok-part-in-Dot,
  in-Quotient+in_ok-part-in-Quotient,
}

pub returns-in-Combination : goal.returns-in-Combination
returns-in-Combination c = IfOk-weaker c.combination_part.result _ _
    (λ p is. next_is_combination c.args.ring c.args.nodes.now c.requires.graph c.args.i c.index-nodes-i.result
    c.requires.node c.index-nodes-i.is c.requires.named c.len-r.result c.len-r.ensures c.in-Combination.of
    c.deref.result.now (arc_value p) c.in-Combination.is c.deref.ensures.value is)
    c.combination_part.ensures

pub dot_part-requires-clause-known : goal.dot_part-requires-clause-known
dot_part-requires-clause-known c = dot_known c.args.ring c.args.nodes.now c.requires.graph c.args.i
    c.index-nodes-i.result c.requires.node c.index-nodes-i.is c.requires.named c.len-r.result c.len-r.ensures
    c.in-Dot.of c.deref-in-Dot.result.now c.in-Dot.is c.deref-in-Dot.ensures.value

pub quotient_next_of-requires-clause-a_enough : goal.quotient_next_of-requires-clause-a_enough
quotient_next_of-requires-clause-a_enough c = (quotient_enough c.args.ring c.args.nodes.now c.requires.graph c.args.i
    c.index-nodes-i.result c.requires.node c.index-nodes-i.is c.requires.named c.in-Quotient.a c.in-Quotient.b
    c.in-Quotient.is c.index-nodes-a.result c.index-nodes-b.result).0

pub quotient_next_of-requires-clause-b_enough : goal.quotient_next_of-requires-clause-b_enough
quotient_next_of-requires-clause-b_enough c = (quotient_enough c.args.ring c.args.nodes.now c.requires.graph c.args.i
    c.index-nodes-i.result c.requires.node c.index-nodes-i.is c.requires.named c.in-Quotient.a c.in-Quotient.b
    c.in-Quotient.is c.index-nodes-a.result c.index-nodes-b.result).1

pub quotient_next_of-requires-clause-unit : goal.quotient_next_of-requires-clause-unit
quotient_next_of-requires-clause-unit c = quotient_unit c.args.ring c.args.nodes.now c.requires.graph c.args.i
    c.index-nodes-i.result c.requires.node c.index-nodes-i.is c.requires.named c.in-Quotient.a c.in-Quotient.b
    c.in-Quotient.is c.index-nodes-a.result c.index-nodes-b.result

pub quotient_next_of-requires-clause-a_parts : goal.quotient_next_of-requires-clause-a_parts
quotient_next_of-requires-clause-a_parts c = (quotient_parts c.args.ring c.args.nodes.now c.requires.graph c.args.i
    c.index-nodes-i.result c.requires.node c.index-nodes-i.is c.requires.named c.in-Quotient.a c.in-Quotient.b
    c.in-Quotient.is c.index-nodes-a.result c.index-nodes-b.result).0

pub quotient_next_of-requires-clause-b_parts : goal.quotient_next_of-requires-clause-b_parts
quotient_next_of-requires-clause-b_parts c = (quotient_parts c.args.ring c.args.nodes.now c.requires.graph c.args.i
    c.index-nodes-i.result c.requires.node c.index-nodes-i.is c.requires.named c.in-Quotient.a c.in-Quotient.b
    c.in-Quotient.is c.index-nodes-a.result c.index-nodes-b.result).1

pub quotient_next_of-requires-clause-own_parts : goal.quotient_next_of-requires-clause-own_parts
quotient_next_of-requires-clause-own_parts c = (quotient_parts c.args.ring c.args.nodes.now c.requires.graph c.args.i
    c.index-nodes-i.result c.requires.node c.index-nodes-i.is c.requires.named c.in-Quotient.a c.in-Quotient.b
    c.in-Quotient.is c.index-nodes-a.result c.index-nodes-b.result).2

pub quotient_next_of-requires-clause-own_first : goal.quotient_next_of-requires-clause-own_first
quotient_next_of-requires-clause-own_first c = quotient_own c.args.ring c.args.nodes.now c.requires.graph c.args.i
    c.index-nodes-i.result c.requires.node c.index-nodes-i.is c.requires.named c.in-Quotient.a c.in-Quotient.b
    c.in-Quotient.is c.index-nodes-a.result c.index-nodes-b.result

pub returns : goal.returns
returns c = subst (IsNextPart c.args.ring c.args.nodes.now c.requires.graph c.args.i c.index-nodes-i.result
    c.requires.node c.index-nodes-i.is c.requires.named) (sym c.in_ok-new.ensures.ok)
    (elim c.match-node.branch as (λ _. IsNextPart c.args.ring c.args.nodes.now c.requires.graph c.args.i
    c.index-nodes-i.result c.requires.node c.index-nodes-i.is c.requires.named c.match-node.part) [
      | in-Number+in_ok-part-in-Number w ↦ subst (IsNextPart c.args.ring c.args.nodes.now c.requires.graph c.args.i
          c.index-nodes-i.result c.requires.node c.index-nodes-i.is c.requires.named) (sym w.part-is)
          (next_is_number c.args.ring c.args.nodes.now c.requires.graph c.args.i c.index-nodes-i.result
          c.requires.node c.index-nodes-i.is c.requires.named c.len-r.result c.len-r.ensures w.in-Number.c
          w.in_ok-part-in-Number.part w.in-Number.is w.in_ok-part-in-Number.ensures)
      | in-Variable+in_ok-part-in-Variable w ↦ subst (IsNextPart c.args.ring c.args.nodes.now c.requires.graph
          c.args.i c.index-nodes-i.result c.requires.node c.index-nodes-i.is c.requires.named) (sym w.part-is)
          (next_is_variable c.args.ring c.args.nodes.now c.requires.graph c.args.i c.index-nodes-i.result
          c.requires.node c.index-nodes-i.is c.requires.named c.len-r.result c.len-r.ensures w.in-Variable.i
          w.in_ok-part-in-Variable.part w.in-Variable.is w.in_ok-part-in-Variable.ensures)
      | in-Dot+in_ok-part-in-Dot w ↦ subst (IsNextPart c.args.ring c.args.nodes.now c.requires.graph c.args.i
          c.index-nodes-i.result c.requires.node c.index-nodes-i.is c.requires.named) (sym w.part-is)
          (next_is_dot c.args.ring c.args.nodes.now c.requires.graph c.args.i c.index-nodes-i.result
          c.requires.node c.index-nodes-i.is c.requires.named c.len-r.result c.len-r.ensures w.in-Dot.of
          w.deref-in-Dot.result.now w.in_ok-part-in-Dot.part w.in-Dot.is w.deref-in-Dot.ensures.value
          w.in_ok-part-in-Dot.ensures)
      | in-Quotient+in_ok-part-in-Quotient w ↦ subst (IsNextPart c.args.ring c.args.nodes.now c.requires.graph
          c.args.i c.index-nodes-i.result c.requires.node c.index-nodes-i.is c.requires.named) (sym w.part-is)
          (next_is_quotient c.args.ring c.args.nodes.now c.requires.graph c.args.i c.index-nodes-i.result
          c.requires.node c.index-nodes-i.is c.requires.named w.in-Quotient.a w.in-Quotient.b w.in-Quotient.is
          w.index-nodes-a.result w.index-nodes-b.result w.in_ok-part-in-Quotient.part
          w.in_ok-part-in-Quotient.ensures.degree w.in_ok-part-in-Quotient.ensures.part
          w.in_ok-part-in-Quotient.ensures.first)
    ])
