use Rattle.std.proofs.Common.{ℕ, List, take, drop, map}
use Rattle.parts.specs.Terms.{entry_of}
use Rattle.printer.specs.Lines.{texts_of, listed}
use Rattle.printer.proofs.Pieces.{IsLeft}
use Rattle.printer.proofs.terms.write_terms.Given as goal

abbrev pub invariant-loop-term : goal.invariant-loop-term
invariant-loop-term g l =
    let written = g.K.Sink.written in
    let faults = g.K.Sink.faults in
    let names : List (List ℕ) = take l.variables.count (g.N.NameView.names l.variables.names.now) in
    let texts = texts_of names (map entry_of l.terms) in
    IsLeft (written l.fn.sink) (written l.sink) (faults l.fn.sink) (faults l.sink)
    l.fn.buffer l.buffer (listed l.some texts)
    (listed l.behind (drop l.term-index texts))
