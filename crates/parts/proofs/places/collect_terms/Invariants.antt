use Rattle.std.proofs.Common.{◌≡◌, ◌-◌, length, drop, map}
use Rattle.parts.specs.Terms.{entry_of, finished, key_at}
use Rattle.parts.proofs.places.collect_terms.Given as goal

abbrev pub invariant-loop-k : goal.invariant-loop-k
invariant-loop-k l = map entry_of l.terms.items ≡
    finished l.modulus.value (key_at l.degree l.weights) (length l.cells - l.k) (drop (length l.cells - l.k) l.cells)
