-- proofs/plain/factors/same_entry/Answers.antt
use Rattle.ps_model.proofs.PlainChecks.{same_keys, other_keys}
use Rattle.ps_model.proofs.plain.factors.same_entry.Goals as goal

pub returns-then-eq : goal.returns-then-eq
returns-then-eq c = same_keys c.args.a.now c.args.b.now c.compare.result c.compare.ensures c.if-eq.ensures

pub returns-else-eq : goal.returns-else-eq
returns-else-eq c = other_keys c.args.a.now c.args.b.now c.compare.result c.eq.result c.compare.ensures c.if-eq.ensures
    c.if-eq.false
