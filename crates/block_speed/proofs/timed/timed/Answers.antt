use Rattle.std.proofs.Common.{arith}
use Rattle.block_speed.proofs.timed.timed.Goals as goal

pub timed_known-requires : goal.timed_known-requires
timed_known-requires g c = let low = c.if-d-known.true in (c.in-Some.ensures c.args.d).0 (omega arith)
