use Rattle.std.proofs.Common.{suc}
use Rattle.parts.specs.Series.{series, polynomial_in}
use Rattle.comparison.specs.Compared.{compared_to}
use Rattle.comparison.proofs.FirstSlices.{SameFrom}
use Rattle.comparison.proofs.polynomials.first_slice.Given as goal

abbrev pub invariant-loop-power : goal.invariant-loop-power
invariant-loop-power g l =
    let value = g.V.BlockView.value l.view in
    SameFrom (series value.ring) (compared_to value l.d l.of) (polynomial_in value.ring l.other) (suc l.power)
