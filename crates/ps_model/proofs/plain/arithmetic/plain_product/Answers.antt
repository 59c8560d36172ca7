-- proofs/plain/arithmetic/plain_product/Answers.antt
use Rattle.std.proofs.Common.{◌∙◌, map, arith}
use Rattle.std.specs.FinMap.{entries}
use Rattle.ps_model.specs.Keys.{key_compare, add_keys}
use Rattle.ps_model.specs.Sums.{products}
use Rattle.ps_model.specs.FiniteMaps.{collected}
use Rattle.ps_model.specs.Plain.{entry_of}
use Rattle.ps_model.proofs.PlainSums.{rows_none, rows_more}
use Rattle.ps_model.proofs.PlainSums.{from_start, row_in_range}
use Rattle.ps_model.proofs.plain.arithmetic.plain_product.Goals as goal

pub loop-i-init : goal.loop-i-init
loop-i-init c = rows_none c.args.m c.terms-rows.result.now (entries c.args.b.now) c.new-product.result
    c.new-product.ensures

pub add_multiple-requires-clause-in_range : goal.add_multiple-requires-clause-in_range
add_multiple-requires-clause-in_range c = row_in_range c.terms-rows.result.now _ _ (entries c.args.a.now)
    (entries c.args.b.now) (omega arith) c.terms-rows.ensures.listed c.requires.in_range

pub loop-i-preserved : goal.loop-i-preserved
loop-i-preserved c = rows_more c.args.m c.terms-rows.result.now (entries c.args.b.now) c.loop-i.i _ c.loop-i.product
    c.add_multiple.new.sum c.loop-i-test.true c.loop-i.auto.i c.loop-i.invariant c.in_ok-add_multiple.ensures

pub returns : goal.returns
returns c = c.loop-i.invariant
    ∙ from_start (λ l. collected (key_compare 8) c.args.m (products (add_keys 8) l (entries c.args.b.now)))
    (map entry_of c.terms-rows.result.now) (entries c.args.a.now) c.loop-i.i c.loop-i-test.false
    c.terms-rows.ensures.listed
