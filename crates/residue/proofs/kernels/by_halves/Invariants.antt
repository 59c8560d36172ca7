use Rattle.std.proofs.Common.{◌≡◌, ◌+◌, ◌*◌, ◌^◌, ◌≤◌}
use Rattle.residue.specs.Products.{sum_below}
use Rattle.residue.proofs.Products.{crossed}
use Rattle.residue.proofs.kernels.by_halves.Given as goal

abbrev pub invariant-loop-i : goal.invariant-loop-i
invariant-loop-i l = record {
  total : l.low + 2 ^ 32 * l.high ≡ sum_below l.i (crossed l.a l.w);
  low : l.low ≤ l.i * 2 ^ 32;
  high : l.high ≤ l.i * 2 ^ 32;
}
