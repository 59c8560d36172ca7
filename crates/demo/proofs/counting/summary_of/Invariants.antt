use Rattle.std.proofs.Common.{◌^◌}
use Rattle.parts.specs.Rings.{modulus_of}
use Rattle.demo.specs.Counts.{numbers_at, totals_at}
use Rattle.demo.proofs.CountSteps.{AreTold}
use Rattle.demo.proofs.counting.summary_of.Given as goal

abbrev pub invariant-loop-power : goal.invariant-loop-power
invariant-loop-power g l =
    let value = g.V.BlockView.value l.view in
    AreTold (modulus_of value.ring) 0 0 (2 ^ 70) l.power (numbers_at value l.i) (totals_at value l.i) l.now.terms
    l.now.sum
