-- proofs/plain/factors/linear/Answers.antt
use Rattle.std.proofs.Common.{[], ◌∷◌, ◌-◌}
use Rattle.ps_model.specs.Keys.{y_key}
use Rattle.ps_model.specs.Plain.{key_of}
use Rattle.ps_model.proofs.PlainChecks.{collected_more, collected_none}
use Rattle.ps_model.proofs.plain.factors.linear.Goals as goal

pub returns : goal.returns
returns c = collected_more c.args.m ((y_key 8 0, c.args.m - c.args.value) ∷ []) c.add.new.self c.add-2.new.self
    (y_key 8 1)
    (key_of c.y_term-2.result) 1
    (collected_more c.args.m [] c.new-linear.result c.add.new.self (y_key 8 0) (key_of c.y_term.result)
    (c.args.m - c.args.value) (collected_none c.args.m c.new-linear.result c.new-linear.ensures) c.y_term.ensures
    c.in_ok-add.ensures.ok) c.y_term-2.ensures c.in_ok-add-2.ensures.ok
