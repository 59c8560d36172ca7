-- proofs/plain/factors/same_terms/Answers.antt
use Rattle.std.proofs.Common.{arith}
use Rattle.ps_model.proofs.PlainChecks.{taken_more, differ_at}
use Rattle.ps_model.proofs.plain.factors.same_terms.Goals as goal

pub returns-then-not-same_entry : goal.returns-then-not-same_entry
returns-then-not-same_entry c =
    differ_at c.args.a.now c.args.b.now c.loop-i.i _ _ c.same_entry.result c.loop-i-test.true
    c.if-a-b.false c.if-not-same_entry.true c.same_entry.ensures.1

pub loop-i-preserved : goal.loop-i-preserved
loop-i-preserved c = taken_more c.args.a.now c.args.b.now c.loop-i.i _ _ c.loop-i-test.true (omega arith)
    c.loop-i.invariant (c.same_entry.ensures.0 c.if-not-same_entry.false)
