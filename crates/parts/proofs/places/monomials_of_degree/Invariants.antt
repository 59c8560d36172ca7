use Rattle.std.proofs.Common.{◌-◌, drop}
use Rattle.parts.specs.Counting.{AreCounts}
use Rattle.parts.specs.Places.{monomials_at}
use Rattle.parts.proofs.places.monomials_of_degree.Given as goal

abbrev pub invariant-loop-k : goal.invariant-loop-k
invariant-loop-k l = AreCounts (monomials_at (drop (l.n - l.k) l.weights)) l.degree l.counts
