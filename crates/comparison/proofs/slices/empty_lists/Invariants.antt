use Rattle.std.proofs.Common.{◌≡◌, [], map, replicate}
use Rattle.comparison.proofs.slices.empty_lists.Given as goal

abbrev pub invariant-loop-r : goal.invariant-loop-r
invariant-loop-r l = map (λ list. list.items) l.lists.items ≡ replicate l._r []
