use Rattle.std.proofs.Common.{sym, subst}
use Rattle.std.specs.Fmt.{HasWritten}
use Rattle.series_graph.specs.ErrorText.{error_text}
use Rattle.series_graph.specs.declared.error.GraphError.{GraphError}
use Rattle.series_graph.proofs.error.GraphErrorDisplay.fmt.Goals as goal

pub returns-in-NotAUnit-clause-writes : goal.returns-in-NotAUnit-clause-writes
returns-in-NotAUnit-clause-writes g c = λ plain ok. subst
    (λ (e : GraphError). HasWritten {W = g.row.W.Denot} g.W.Write.write_str_gives c.args.f.now (error_text e)
    c.write-in-NotAUnit.new.self) (sym c.in-NotAUnit.is) (c.write-in-NotAUnit.ensures.writes plain ok)
