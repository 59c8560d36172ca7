use Rattle.std.proofs.Common.{arith}
use Rattle.session_tests.proofs.printing.write_known_degree.Goals as goal

pub write_degree-requires : goal.write_degree-requires
write_degree-requires c = let low = c.if-r-known.true in (c.in-Some.ensures c.args.r).0 (omega arith)
