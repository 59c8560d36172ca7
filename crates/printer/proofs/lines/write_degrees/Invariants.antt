use Rattle.std.proofs.Common.{ℕ, List, take}
use Rattle.printer.proofs.DegreeTexts.{IsRowFrom}
use Rattle.printer.proofs.lines.write_degrees.Given as goal

abbrev pub invariant-loop-r : goal.invariant-loop-r
invariant-loop-r g l =
    let written = g.K.Sink.written in
    let faults = g.K.Sink.faults in
    let names : List (List ℕ) = take l.variables.count (g.N.NameView.names l.variables.names.now) in
    IsRowFrom names (g.C.Coefficients.part_of l.coefficients l.power) l.d (written l.fn.sink) (written l.sink)
    (faults l.fn.sink) (faults l.sink) l.fn.buffer l.buffer l.r l.some
