use Rattle.std.proofs.Common.{◌≡◌, ◌+◌}
use Rattle.residue.specs.Products.{sum_below}
use Rattle.residue.proofs.Products.{crossed}
use Rattle.residue.proofs.kernels.in_one_word.Given as goal

abbrev pub invariant-loop-i : goal.invariant-loop-i
invariant-loop-i l = l.total ≡ l.sum + sum_below l.i (crossed l.a l.w)
