use Rattle.std.proofs.Common.{ℕ, List, [], ◌++◌}
use Rattle.std.specs.Prelude.{codes}
use Rattle.ps_model.specs.BlockText.{newline}
use Rattle.printer.specs.Texts.{view_degree_text}
use Rattle.printer.proofs.Pieces.{IsLeft}
use Rattle.session.specs.ViewTexts.{view_stream_text}
use Rattle.session.proofs.StreamSteps.{left_from}
use Rattle.session.proofs.streams.write_stream.Given as goal

abbrev pub invariant-loop-r : goal.invariant-loop-r
invariant-loop-r g l =
    let written = g.K.Sink.written in
    let faults = g.K.Sink.faults in
    let value = g.V.BlockView.value l.view in
    let names : List (List ℕ) = g.V.NameView.names l.view in
    IsLeft (written l.fn.sink) (written l.sink) (faults l.fn.sink) (faults l.sink) [] []
    (view_stream_text names value l.d)
    (left_from (view_degree_text names value) l.d l.r ++ (codes "end" ++ newline))
