use Rattle.std.proofs.Common.{map, take}
use Rattle.comparison.specs.Compared.{AreByDegree}
use Rattle.comparison.proofs.slices.by_degree.Given as goal

abbrev pub invariant-loop-term : goal.invariant-loop-term
invariant-loop-term l =
    AreByDegree l.ring l.power l.d (take l.term-index l.terms) (map (λ list. list.items) l.lists.items)
