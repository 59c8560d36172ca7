use Rattle.std.proofs.Common.{◌≡◌, length, List, ap, arith}
use Rattle.expr_reader.proofs.AsNames.{names_as_names}
use Rattle.session_tests.proofs.reading.read.Goals as goal

pub read_block-requires-clause-named : goal.read_block-requires-clause-named
read_block-requires-clause-named c =
    let same = ap length (names_as_names c.in_ok-names.names c.len.ensures.variables.valid) in
    let variables = c.new-ring.ensures.variables in
    let count = c.len-2.ensures.count in
    omega (arith, same, variables, count)
