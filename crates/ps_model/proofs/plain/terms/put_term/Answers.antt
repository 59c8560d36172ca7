-- proofs/plain/terms/put_term/Answers.antt
use Rattle.ps_model.proofs.PlainOrder.{put_found, order_inserted, map_inserted, IsPut}
use Rattle.ps_model.proofs.plain.terms.put_term.Goals as goal

found : (c : goal.After-replace) → IsPut c.args.terms.now.items c.replace.new.terms.items c.args.term
found c = put_found c.deref.result.now c.args.terms.now.items c.replace.new.terms.items c.args.term c.in-Ok.i
    c.deref.ensures.value c.requires c.in-Ok.ensures c.replace.ensures

pub returns-in-Ok-clause-in_order : goal.returns-in-Ok-clause-in_order
returns-in-Ok-clause-in_order c = (found c).in_order

pub returns-in-Ok-clause-ok : goal.returns-in-Ok-clause-ok
returns-in-Ok-clause-ok c = (found c).is

pub returns-in-Err-clause-in_order : goal.returns-in-Err-clause-in_order
returns-in-Err-clause-in_order c = order_inserted c.insert_unless_zero.result c.deref.result.now c.args.terms.now.items
    c.insert_unless_zero.new.terms.items c.args.term c.in-Err.i c.deref.ensures.value c.requires c.in-Err.ensures
    c.insert_unless_zero.ensures.ok c.insert_unless_zero.ensures.err

pub returns-in-Err-clause-ok : goal.returns-in-Err-clause-ok
returns-in-Err-clause-ok c = map_inserted c.insert_unless_zero.result c.deref.result.now c.args.terms.now.items
    c.insert_unless_zero.new.terms.items c.args.term c.in-Err.i c.deref.ensures.value c.requires c.in-Err.ensures
    c.insert_unless_zero.ensures.ok
