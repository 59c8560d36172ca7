-- proofs/plain/factors/product_up_to/Answers.antt
use Rattle.ps_model.proofs.PlainChecks.{product_begun, product_fits, product_more, product_all}
use Rattle.ps_model.proofs.plain.factors.product_up_to.Goals as goal

pub loop-i-init : goal.loop-i-init
loop-i-init c = product_begun c.args.m c.args.weights.now c.args.d c.requires.modulus c.args.fs.now c.in_ok-one.one
    c.in_ok-product.product
    c.in_ok-one.ensures c.in_ok-product.ensures

pub plain_product-requires-clause-in_range : goal.plain_product-requires-clause-in_range
plain_product-requires-clause-in_range c = product_fits c.args.m c.args.weights.now c.args.d c.args.fs.now c.loop-i.i
    c.index-fs-i.result
    c.loop-i.product c.index-fs-i.is c.loop-i-test.true c.loop-i.auto.i c.requires.in_range c.loop-i.invariant

pub loop-i-preserved : goal.loop-i-preserved
loop-i-preserved c = product_more c.args.m c.args.weights.now c.args.d c.requires.modulus c.args.fs.now c.loop-i.i
    c.index-fs-i.result
    c.loop-i.product c.in_ok-next.next c.in_ok-product-2.product c.index-fs-i.is c.loop-i-test.true c.loop-i.auto.i
    c.loop-i.invariant c.in_ok-next.ensures c.in_ok-product-2.ensures

pub returns-clause-product : goal.returns-clause-product
returns-clause-product c = (product_all c.args.m c.args.weights.now c.args.d c.args.fs.now c.loop-i.i c.loop-i.product
    c.loop-i-test.false
    c.loop-i.invariant).is

pub returns-clause-residues : goal.returns-clause-residues
returns-clause-residues c = c.loop-i.invariant.residues

pub returns-clause-within : goal.returns-clause-within
returns-clause-within c = (product_all c.args.m c.args.weights.now c.args.d c.args.fs.now c.loop-i.i c.loop-i.product
    c.loop-i-test.false
    c.loop-i.invariant).within
