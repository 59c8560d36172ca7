use Rattle.std.proofs.Common.{arith}
use Rattle.lifting.proofs.known_part.Goals as goal

pub factor_part-requires-clause-known : goal.factor_part-requires-clause-known
factor_part-requires-clause-known c κs =
    let low = c.if-r-known.false in (c.in_ok-known.ensures c.args.r).0 (omega arith)
