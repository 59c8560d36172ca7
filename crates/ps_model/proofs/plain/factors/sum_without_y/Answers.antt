use Rattle.ps_model.proofs.PlainLeads.{low_none, low_more, low_all}
use Rattle.ps_model.proofs.plain.factors.sum_without_y.Goals as goal

pub loop-i-init : goal.loop-i-init
loop-i-init c = low_none c.args.m c.args.terms.now c.new-sum.result c.new-sum.ensures

pub loop-i-preserved : goal.loop-i-preserved
loop-i-preserved c = low_more c.args.m c.args.terms.now c.loop-i.i _ c.loop-i.sum c.add.new.self c.loop-i-test.true
    c.loop-i.auto.i c.loop-i.invariant c.in_ok-add.ensures.ok

pub returns : goal.returns
returns c = low_all c.args.m c.args.terms.now c.loop-i.i c.loop-i.sum c.loop-i-test.false c.loop-i.invariant
