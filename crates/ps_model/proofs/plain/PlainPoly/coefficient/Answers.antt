-- proofs/plain/PlainPoly/coefficient/Answers.antt
use Rattle.ps_model.proofs.PlainOrder.{coefficient_found, coefficient_missing}
use Rattle.ps_model.proofs.plain.PlainPoly.coefficient.Goals as goal

pub returns-in-Ok : goal.returns-in-Ok
returns-in-Ok c = coefficient_found c.deref.result.now c.self.inside.terms.items c.args.key.now c.index.result.now
    c.in-Ok.i c.args.self.now c.deref.ensures.value c.self.view_is c.in-Ok.ensures c.index.ensures

pub returns-in-Err : goal.returns-in-Err
returns-in-Err c = coefficient_missing c.deref.result.now c.self.inside.terms.items c.args.key.now c.in-Err.field-0
    c.args.self.now c.deref.ensures.value c.self.view_is c.self.invariant c.in-Err.ensures
