use Rattle.std.proofs.Common.{◌++◌, string_bytes}
use Rattle.std.specs.Prelude.{codes, decimal}
use Rattle.parts.specs.Series.{series}
use Rattle.printer.specs.Texts.{factors_to}
use Rattle.demo.proofs.TextSteps.{AreLeft}
use Rattle.demo.proofs.texts.text.Given as goal

abbrev pub invariant-loop-i : goal.invariant-loop-i
invariant-loop-i g l =
    let value = g.V.BlockView.value l.view in
    AreLeft (series value.ring) (codes "demo " ++ decimal l.fn.seed ++ codes " degree " ++ decimal l.fn.degree
    ++ codes "\nprecision 40\n") (factors_to value 40) l.i (string_bytes l.text)
