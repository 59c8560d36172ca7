use Rattle.std.proofs.Common.{ℕ, List, take}
use Rattle.printer.specs.Lines.{coefficient_lines}
use Rattle.printer.proofs.Pieces.{IsLeft}
use Rattle.printer.proofs.lines.write_lines.Given as goal

abbrev pub invariant-loop-power : goal.invariant-loop-power
invariant-loop-power g l =
    let written = g.K.Sink.written in
    let faults = g.K.Sink.faults in
    let names : List (List ℕ) = take l.variables.count (g.N.NameView.names l.variables.names.now) in
    let lines = coefficient_lines names l.d (g.C.Coefficients.part_of l.coefficients) in
    IsLeft (written l.fn.sink) (written l.sink) (faults l.fn.sink) (faults l.sink)
    l.fn.buffer l.buffer (lines l.top) (lines l.power)
