-- proofs/plain/arithmetic/add_all/Answers.antt
use Rattle.std.proofs.Common.{◌∙◌, map}
use Rattle.std.specs.FinMap.{entries}
use Rattle.ps_model.specs.Plain.{entry_of}
use Rattle.ps_model.specs.PlainLists.{added}
use Rattle.ps_model.proofs.PlainSums.{terms_none, terms_more}
use Rattle.ps_model.proofs.PlainSums.{from_start}
use Rattle.ps_model.proofs.plain.arithmetic.add_all.Goals as goal

pub loop-i-init : goal.loop-i-init
loop-i-init c = terms_none c.args.m c.terms-terms.result.now c.args.sum.now

pub loop-i-preserved : goal.loop-i-preserved
loop-i-preserved c = terms_more c.args.m c.terms-terms.result.now c.loop-i.i _ c.args.sum.now c.loop-i.sum
    c.add.new.self c.loop-i-test.true c.loop-i.auto.i c.loop-i.invariant c.in_ok-add.ensures.ok

pub returns : goal.returns
returns c = c.loop-i.invariant ∙
    from_start (λ l. added c.args.m l c.args.sum.now) (map entry_of c.terms-terms.result.now)
    (entries c.args.p.now) c.loop-i.i c.loop-i-test.false c.terms-terms.ensures.listed
