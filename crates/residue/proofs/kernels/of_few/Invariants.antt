use Rattle.std.proofs.Common.{◌≡◌, ◌*◌, ◌^◌, ◌≤◌}
use Rattle.residue.specs.Products.{sum_below}
use Rattle.residue.proofs.Products.{crossed}
use Rattle.residue.proofs.kernels.of_few.Given as goal

abbrev pub invariant-loop-i : goal.invariant-loop-i
invariant-loop-i l = record {
  total : l.total ≡ sum_below l.i (crossed l.a l.w);
  low : l.total ≤ l.i * 2 ^ 126;
}
