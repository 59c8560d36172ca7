use Rattle.std.proofs.Common.{arith}
use Rattle.session_tests.proofs.sessions.in_factor.Goals as goal

pub factor_part-requires-clause-known : goal.factor_part-requires-clause-known
factor_part-requires-clause-known c κs = let low = c.if-r-known.true in (c.in-Some.ensures c.args.r).0 (omega arith)
