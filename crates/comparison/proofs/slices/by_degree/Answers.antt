use Rattle.std.proofs.Common.{◌+◌, map, take, sym, subst, Vec, Global}
use Rattle.ps_model.specs.declared.plain.PlainTerm.{PlainTerm}
use Rattle.comparison.specs.Compared.{AreByDegree}
use Rattle.comparison.proofs.ByDegree.{skipped, filled_more}
use Rattle.comparison.proofs.slices.by_degree.Goals as goal
use Rattle.comparison.proofs.slices.by_degree.Goals.{then-term-power+in_ok-add, else-term-power}

pub loop-term-preserved : goal.loop-term-preserved
loop-term-preserved c = elim c.if-term-power.branch [
  | then-term-power+in_ok-add w ↦ subst (λ (v : Vec (Vec PlainTerm Global) Global). AreByDegree c.args.ring c.args.power
      c.args.d (take (c.loop-term.term-index + 1) c.args.terms.now) (map (λ list. list.items) v.items))
      (sym w.lists-is) (filled_more c.args.ring c.args.power c.args.d c.args.terms.now c.loop-term.term-index _
      c.loop-term-test.true _ c.loop-term.invariant w.if-term-power.true
      (c.requires.low c.loop-term.term-index _ c.loop-term-test.true) w.degree.result w.degree.ensures _
      w.in_ok-add.ensures)
  | else-term-power w ↦ subst (λ (v : Vec (Vec PlainTerm Global) Global). AreByDegree c.args.ring c.args.power c.args.d
      (take (c.loop-term.term-index + 1) c.args.terms.now) (map (λ list. list.items) v.items))
      (sym w.lists-is) (skipped c.args.ring c.args.power c.args.d c.args.terms.now c.loop-term.term-index _
      c.loop-term-test.true _ c.loop-term.invariant w.if-term-power.false)
]
