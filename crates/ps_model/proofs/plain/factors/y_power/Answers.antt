-- proofs/plain/factors/y_power/Answers.antt
use Rattle.std.proofs.Common.{[]}
use Rattle.ps_model.specs.Keys.{y_key}
use Rattle.ps_model.specs.Plain.{key_of}
use Rattle.ps_model.proofs.PlainChecks.{collected_more, collected_none}
use Rattle.ps_model.proofs.plain.factors.y_power.Goals as goal

pub returns : goal.returns
returns c = collected_more c.args.m [] c.new-power.result c.add.new.self (y_key 8 c.args.k) (key_of c.y_term.result) 1
    (collected_none c.args.m c.new-power.result c.new-power.ensures) c.y_term.ensures c.in_ok-add.ensures.ok
