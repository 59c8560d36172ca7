-- proofs/plain/terms/product_key/Answers.antt
use Rattle.std.proofs.Common.{◌+◌, ◌<◌, ◌^◌, get_or, arith}
use Rattle.std.proofs.Math.ListN.{length-set}
use Rattle.ps_model.proofs.PlainSums.{next_fits, y_fits, powers_add, powers_more, powers_left}
use Rattle.ps_model.proofs.plain.terms.product_key.Goals as goal

pub overflow_add-powers : goal.overflow_add-powers
overflow_add-powers c = let fits : get_or c.loop-i.powers c.loop-i.i 0 +
    get_or c.args.b.now.powers c.loop-i.i 0 < 2 ^ 16 =
    next_fits c.args.a.now c.args.b.now c.loop-i.i _ c.requires c.loop-i-test.true
    (c.loop-i.invariant.left c.loop-i.i (omega arith)) in omega arith

pub loop-i-preserved : goal.loop-i-preserved
loop-i-preserved c = record {
  long = rw length-set c.loop-i.invariant.long;
  done = powers_more c.args.a.now.powers c.args.b.now.powers c.loop-i.powers c.loop-i.i
      (omega (arith, c.loop-i.invariant.long)) c.loop-i.invariant.done
      (c.loop-i.invariant.left c.loop-i.i (omega arith));
  left = powers_left c.args.a.now.powers c.loop-i.powers c.loop-i.i _ c.loop-i.invariant.left;
}

pub overflow_add-result : goal.overflow_add-result
overflow_add-result c = let fits = y_fits c.args.a.now c.args.b.now c.requires in omega arith

pub returns : goal.returns
returns c = λ i. record {
  powers = powers_add 8 c.args.a.now.powers c.args.b.now.powers c.loop-i.powers
      (λ j lt. c.loop-i.invariant.done j (omega arith)) i;
  y = c.args.a.now.y + c.args.b.now.y;
}
