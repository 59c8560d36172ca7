use Rattle.std.proofs.Common.{◌<◌, length, sym, subst, arith}
use Rattle.expr_reader.proofs.AsNames.{names_as_names}
use Rattle.reader_tests.proofs.names.push_names.Goals as goal

pub name-requires : goal.name-requires
name-requires c = subst (λ ns. c.loop-i.i < length ns)
    (sym (names_as_names c.args.names.now c.len-i-end.ensures.variables.valid)) (omega arith)
