use Rattle.std.proofs.Common.{arith}
use Rattle.session_tests.proofs.sessions.in_lead.Goals as goal

pub lead_part-requires-after_bounds : goal.lead_part-requires-after_bounds
lead_part-requires-after_bounds c κs = let low = c.if-r-known.true in (c.in-Some.ensures c.args.r).0 (omega arith)
