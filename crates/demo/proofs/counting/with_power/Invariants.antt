use Rattle.std.proofs.Common.{◌^◌}
use Rattle.parts.specs.Rings.{modulus_of}
use Rattle.printer.specs.View.{part_at}
use Rattle.demo.specs.Counts.{number_in, total_in}
use Rattle.demo.proofs.CountSteps.{AreTold}
use Rattle.demo.proofs.counting.with_power.Given as goal

abbrev pub invariant-loop-r : goal.invariant-loop-r
invariant-loop-r g l =
    let value = g.V.BlockView.value l.view in
    AreTold (modulus_of value.ring) l.fn.summary.terms l.fn.summary.sum (2 ^ 64) l.r
    (λ r. number_in (part_at value l.i l.power r)) (λ r. total_in (part_at value l.i l.power r)) l.now.terms l.now.sum
