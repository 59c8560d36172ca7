use Rattle.std.proofs.Common.{◌≡◌, ◌+◌, ◌*◌, ◌^◌, ◌≤◌}
use Rattle.residue.specs.Products.{sum_below}
use Rattle.residue.proofs.Products.{crossed}
use Rattle.residue.proofs.kernels.by_fours.Given as goal

abbrev pub invariant-loop-k : goal.invariant-loop-k
invariant-loop-k l = record {
  total : l.low + 2 ^ 128 * l.top ≡ sum_below (4 * l.k) (crossed l.a l.w);
  top : l.top ≤ l.k;
}
