use Rattle.std.proofs.Common.{◌≡◌, ◌-◌, ◌^◌, ◌%◌}
use Rattle.parts.specs.Rings.{modulus_of}
use Rattle.parts.specs.RowsOfParts.{parts_of}
use Rattle.taylor.proofs.Shares.{IsShares}
use Rattle.taylor.proofs.shifts.shifted_part.Given as goal

abbrev pub invariant-loop-j : goal.invariant-loop-j
invariant-loop-j l = record {
  shares : IsShares l.fn.ring l.c (parts_of l.row) l.i l.j l.sum;
  power : l.power ≡ l.c ^ (l.j - l.i) % modulus_of l.fn.ring;
}
