use Rattle.std.proofs.Common.{arith}
use Rattle.session_tests.proofs.printing.write_known_block.Goals as goal

pub write_block-requires : goal.write_block-requires
write_block-requires g c = let low = c.if-d-known.true in (c.in-Some.ensures c.args.d).0 (omega arith)
