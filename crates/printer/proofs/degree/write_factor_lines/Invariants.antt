use Rattle.std.proofs.Common.{◌+◌, ℕ, List}
use Rattle.ps_model.specs.StreamText.{lines_of}
use Rattle.parts.specs.Series.{series}
use Rattle.printer.specs.Texts.{factor_to}
use Rattle.printer.proofs.Pieces.{IsLeft}
use Rattle.printer.proofs.degree.write_factor_lines.Given as goal

abbrev pub invariant-loop-power : goal.invariant-loop-power
invariant-loop-power g l =
    let written = g.K.Sink.written in
    let faults = g.K.Sink.faults in
    let value = g.V.BlockView.value l.view in
    let names : List (List ℕ) = g.V.NameView.names l.view in
    let lines = lines_of (series value.ring) names l.r (l.i + 1) (factor_to value l.r l.i) in
    IsLeft (written l.fn.sink) (written l.sink) (faults l.fn.sink) (faults l.sink)
    l.fn.buffer l.buffer (lines l.times) (lines l.power)
