use contract.Lifetimes.{Lfts}
use denote.Param.{param}
use denote.Param.Send.{IsSend, IsSync, sendable, param_send}
use Rattle.std.proofs.Crossing.{crosses}
use Rattle.prepare.proofs.tally.Tally.TheSendSync as of_tally
use Rattle.pipe.proofs.Sent.{stage_send, reader_send, writer_send}
use Rattle.pipe.proofs.pipeline.both.Lts.{arg-0-1}
use Rattle.pipe.proofs.pipeline.both.Given.{Over}
use Rattle.pipe.proofs.pipeline.both.Goals as goal

sent : (g : Over) (κs : Lfts 26) → IsSync (param 0 g.row.R) → IsSync (param 1 g.row.G)
    → IsSend (arg-0-1 g.row.R g.row.G g.row.I g.R.laws g.G.laws g.I.laws g.R.Threads-dict g.R.Wait-dict g.G.Gate-dict g.I.RowSource-dict κs)
sent g κs r y = search (sendable, crosses, stage_send, reader_send, writer_send, of_tally.the_send) depth 20

pub join_mut-rest-requires-send-F : goal.join_mut-rest-requires-send-F
join_mut-rest-requires-send-F g c κs within = param_send 1 _ (sent g κs c.type_bounds.sync-R c.type_bounds.sync-G)
