use Rattle.std.proofs.Common.{◌+◌, ℕ, List, drop}
use Rattle.ps_model.specs.BlockText.{factor_texts}
use Rattle.parts.specs.Series.{series}
use Rattle.printer.specs.Texts.{factors_to, view_text}
use Rattle.printer.proofs.Pieces.{IsLeft}
use Rattle.printer.proofs.block.put_block.Given as goal

abbrev pub invariant-loop-i : goal.invariant-loop-i
invariant-loop-i g l =
    let written = g.K.Sink.written in
    let faults = g.K.Sink.faults in
    let value = g.V.BlockView.value l.view in
    let names : List (List ℕ) = g.V.NameView.names l.view in
    IsLeft (written l.fn.sink) (written l.sink) (faults l.fn.sink) (faults l.sink)
    l.fn.buffer l.buffer (view_text names value l.d)
    (factor_texts (series value.ring) names l.d (l.i + 1) (drop l.i value.roots) (drop l.i (factors_to value l.d)))
