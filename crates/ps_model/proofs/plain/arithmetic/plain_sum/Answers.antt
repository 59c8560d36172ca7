-- proofs/plain/arithmetic/plain_sum/Answers.antt
use Rattle.ps_model.proofs.PlainSums.{sum_is}
use Rattle.ps_model.proofs.plain.arithmetic.plain_sum.Goals as goal

pub returns : goal.returns
returns c = sum_is c.args.m c.args.a.now c.args.b.now c.new-sum.result c.add_all.new.sum c.add_all-2.new.sum
    c.new-sum.ensures c.in_ok-add_all.ensures c.in_ok-add_all-2.ensures
