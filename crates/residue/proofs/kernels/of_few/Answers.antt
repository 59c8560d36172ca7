use Rattle.std.proofs.Common.{◌-◌, length, arith}
use Rattle.std.proofs.lemmas.Grind.{common_steps}
use Rattle.residue.proofs.Products.{product_low, sum_below-next}
use Rattle.residue.proofs.kernels.of_few.Goals as goal

pub loop-i-preserved : goal.loop-i-preserved
loop-i-preserved c = record {
  total = grind (arith, common_steps, sum_below-next);
  low = grind (
    arith,
    product_low,
    c.requires.a_below c.loop-i.i 0,
    c.requires.w_below (length c.args.a.now - 1 - c.loop-i.i) 0,
  );
}
