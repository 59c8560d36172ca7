-- proofs/plain/arithmetic/add_multiple/Answers.antt
use Rattle.std.proofs.Common.{◌∙◌, map, ap, arith}
use Rattle.std.specs.FinMap.{entries}
use Rattle.ps_model.specs.Plain.{key_of, entry_of}
use Rattle.ps_model.specs.PlainLists.{added, multiplied}
use Rattle.ps_model.proofs.PlainSums.{multiples_none, multiples_more}
use Rattle.ps_model.proofs.PlainSums.{from_start, entry_in_range}
use Rattle.ps_model.proofs.plain.arithmetic.add_multiple.Goals as goal

pub loop-i-init : goal.loop-i-init
loop-i-init c = multiples_none c.args.m (entry_of c.args.by.now) c.terms-terms.result.now c.args.sum.now

pub product_key-requires : goal.product_key-requires
product_key-requires c = entry_in_range (key_of c.args.by.now) c.terms-terms.result.now _ _ (entries c.args.p.now)
    (omega arith) c.terms-terms.ensures.listed c.requires.in_range

pub loop-i-preserved : goal.loop-i-preserved
loop-i-preserved c = multiples_more c.args.m (entry_of c.args.by.now) c.terms-terms.result.now c.loop-i.i _
    (key_of c.product_key.result) c.args.sum.now c.loop-i.sum c.add.new.self c.loop-i-test.true c.loop-i.auto.i
    c.product_key.ensures c.loop-i.invariant c.in_ok-add.ensures.ok

pub returns : goal.returns
returns c = c.loop-i.invariant
    ∙ from_start (λ l. added c.args.m l c.args.sum.now)
    (multiplied (entry_of c.args.by.now) (map entry_of c.terms-terms.result.now))
    (multiplied (entry_of c.args.by.now) (entries c.args.p.now)) c.loop-i.i c.loop-i-test.false
    (ap (multiplied (entry_of c.args.by.now)) c.terms-terms.ensures.listed)
