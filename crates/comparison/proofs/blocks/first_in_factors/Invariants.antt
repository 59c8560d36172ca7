use Rattle.std.proofs.Common.{◌≡◌, map, take}
use Rattle.parts.specs.Series.{polynomial_in}
use Rattle.printer.specs.Texts.{factors_to}
use Rattle.comparison.proofs.blocks.first_in_factors.Given as goal

abbrev pub invariant-loop-i : goal.invariant-loop-i
invariant-loop-i g l =
    let value = g.V.BlockView.value l.view in
    take l.i (factors_to value l.d) ≡ take l.i (map (polynomial_in value.ring) l.factors)
