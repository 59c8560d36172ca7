-- proofs/plain/factors/are_factors/Answers.antt
use Rattle.ps_model.proofs.PlainChecks.{one_fails, one_passes, all_pass, other_lengths}
use Rattle.ps_model.proofs.plain.factors.are_factors.Goals as goal

pub returns-then-roots-fs : goal.returns-then-roots-fs
returns-then-roots-fs c = other_lengths c.args.m c.args.weights.now c.args.d c.args.roots.now c.args.fs.now
    c.if-roots-fs.true

pub returns-then-not-branch : goal.returns-then-not-branch
returns-then-not-branch c = one_fails c.args.m c.args.weights.now c.args.d c.loop-i.i c.args.roots.now c.args.fs.now
    c.index-fs-i.result _
    c.in_ok-is_factor.field-0 c.loop-i-test.true c.if-roots-fs.false c.index-fs-i.is c.if-not-branch.true
    c.in_ok-is_factor.ensures

pub loop-i-preserved : goal.loop-i-preserved
loop-i-preserved c = one_passes c.args.m c.args.weights.now c.args.d c.loop-i.i c.args.roots.now c.args.fs.now
    c.index-fs-i.result _
    c.in_ok-is_factor.field-0 c.loop-i-test.true c.if-roots-fs.false c.index-fs-i.is c.if-not-branch.false
    c.in_ok-is_factor.ensures c.loop-i.invariant

pub returns : goal.returns
returns c = all_pass c.args.m c.args.weights.now c.args.d c.loop-i.i c.args.roots.now c.args.fs.now c.loop-i-test.false
    c.if-roots-fs.false
    c.loop-i.invariant
