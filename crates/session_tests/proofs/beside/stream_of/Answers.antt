use Rattle.std.proofs.Common.{arith}
use Rattle.session_tests.proofs.beside.stream_of.Goals as goal

pub write_stream-requires-clause-known : goal.write_stream-requires-clause-known
write_stream-requires-clause-known g c = let low = c.if-to-known.true in (c.in-Some.ensures c.args.to).0 (omega arith)
