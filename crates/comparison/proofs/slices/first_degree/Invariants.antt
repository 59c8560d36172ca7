use Rattle.std.proofs.Common.{ℕ, ◌<◌, map}
use Rattle.comparison.specs.Compared.{IsSameAt}
use Rattle.comparison.proofs.slices.first_degree.Given as goal

abbrev pub invariant-loop-r : goal.invariant-loop-r
invariant-loop-r g l = (s : ℕ) → s < l.r
    → IsSameAt (g.V.BlockView.value l.view) l.of l.power (map (λ list. list.items) l.lists) s
