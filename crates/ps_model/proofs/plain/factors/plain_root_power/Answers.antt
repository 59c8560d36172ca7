-- proofs/plain/factors/plain_root_power/Answers.antt
use Rattle.std.proofs.Common.{◌<◌, ◌^◌, arith}
use Rattle.ps_model.proofs.PlainChecks.{root_none, root_fits, root_more, root_all}
use Rattle.ps_model.proofs.plain.factors.plain_root_power.Goals as goal

pub loop-i-init : goal.loop-i-init
loop-i-init c = root_none c.args.m c.args.root.now.value c.requires.modulus c.in_ok-power.power c.in_ok-power.ensures

pub plain_product-requires-clause-in_range : goal.plain_product-requires-clause-in_range
plain_product-requires-clause-in_range c = let small : c.args.root.now.times < 2 ^ 32 = omega arith in
    root_fits c.args.m c.args.root.now.value c.loop-i._i c.args.root.now.times c.in_ok-linear.linear c.loop-i.power
    c.loop-i-test.true small c.in_ok-linear.ensures c.loop-i.invariant

pub loop-i-preserved : goal.loop-i-preserved
loop-i-preserved c = root_more c.args.m c.args.root.now.value c.loop-i._i c.requires.modulus c.in_ok-linear.linear
    c.loop-i.power c.in_ok-power-2.power c.in_ok-linear.ensures c.loop-i.invariant c.in_ok-power-2.ensures

pub returns-clause-power : goal.returns-clause-power
returns-clause-power c = root_all c.args.m c.args.root.now c.loop-i._i c.loop-i.power (omega arith) (omega arith)
    c.loop-i.invariant

pub returns-clause-residues : goal.returns-clause-residues
returns-clause-residues c = c.loop-i.invariant.residues
