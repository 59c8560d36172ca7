use Rattle.std.proofs.Common.{◌≡◌, length, drop}
use Rattle.parts.specs.Counting.{AreCounts, monomials_up_to}
use Rattle.parts.specs.Rings.{weights_of}
use Rattle.parts.proofs.counting.monomials.Given as goal

abbrev pub invariant-loop-k : goal.invariant-loop-k
invariant-loop-k l = record {
  places : length l.counts ≡ 4096;
  counts : AreCounts (monomials_up_to (drop l.k (weights_of l.fn.ring))) l.d l.counts;
}
