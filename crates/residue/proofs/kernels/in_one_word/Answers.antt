use Rattle.std.proofs.Common.{arith}
use Rattle.residue.proofs.Products.{one_word_fits}
use Rattle.residue.proofs.kernels.in_one_word.Goals as goal

pub overflow_add-total : goal.overflow_add-total
overflow_add-total c = omega (
  arith,
  one_word_fits c.args.a.now c.args.w.now c.requires.same c.args.sum c.loop-i.total c.loop-i.i c.requires.a_below
      c.requires.w_below (omega arith) c.loop-i.invariant c.requires.room,
)
