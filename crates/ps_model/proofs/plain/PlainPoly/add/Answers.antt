-- proofs/plain/PlainPoly/add/Answers.antt
use Rattle.ps_model.specs.Plain.{key_of, value_in}
use Rattle.ps_model.proofs.PlainOrder.{same_put}
use Rattle.ps_model.proofs.plain.PlainPoly.add.Goals as goal

pub returns-clause-ok : goal.returns-clause-ok
returns-clause-ok c = same_put c.put.result c.args.self.now c.put.new.self (key_of c.args.key.now) c.args.m
    c.args.amount
    c.coefficient.result (value_in c.args.self.now (key_of c.args.key.now)) c.coefficient.ensures c.put.ensures.ok
