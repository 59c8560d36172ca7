use Rattle.std.proofs.Common.{[], refl}
use Rattle.std.proofs.lemmas.Result.{err_from_is_err_and}
use Rattle.grammar.specs.Machine.{start}
use Rattle.expr_reader.proofs.Stopped.{stops_runs}
use Rattle.expr_reader.proofs.parsing.read_trimmed.Goals as goal

pub returns-in_err-expr : goal.returns-in_err-expr
returns-in_err-expr c =
    let p = err_from_is_err_and c.from_residual.result c.from_residual.ensures.1 in
    rw (p.1, p.2) (stops_runs (start []) c.new-reader.result _ c.in_err-expr.field-0.0 c.new-reader.ensures
    (c.in_err-expr.ensures.moves [] refl))
