use Rattle.std.proofs.Common.{arith}
use Rattle.residue.proofs.Products.{product_low}
use Rattle.residue.proofs.kernels.of_four.Goals as goal

pub overflow_add-result-3 : goal.overflow_add-result-3
overflow_add-result-3 c = grind (
  arith,
  product_low,
  c.requires.x_below 0 0,
  c.requires.x_below 1 0,
  c.requires.x_below 2 0,
  c.requires.x_below 3 0,
  c.requires.y_below 0 0,
  c.requires.y_below 1 0,
  c.requires.y_below 2 0,
  c.requires.y_below 3 0,
)
