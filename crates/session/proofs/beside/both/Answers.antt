use contract.Lifetimes.{Lfts}
use denote.Param.{param}
use denote.Param.Send.{IsSend, IsSync, sendable, param_send}
use Rattle.std.proofs.Crossing.{crosses}
use Rattle.prepare.proofs.tally.Tally.TheSendSync as of_tally
use Rattle.pipe.proofs.Sent.{reader_send, writer_send}
use Rattle.session.proofs.LineSent.{line_send}
use Rattle.session.proofs.beside.both.Lts.{arg-0-1}
use Rattle.session.proofs.beside.both.Given.{Over}
use Rattle.session.proofs.beside.both.Goals as goal

-- in a signature of its own, since the search tries each fact that it has
sent : (g : Over) (κs : Lfts 27) → IsSync (param 0 g.row.T) → IsSync (param 2 g.row.G) → IsSend (param 1 g.row.I)
    → IsSend (arg-0-1 g.row.T g.row.I g.row.G g.row.K g.T.laws g.I.laws g.G.laws g.K.laws g.T.Threads-dict g.T.Wait-dict
    g.I.RowSource-dict g.G.Gate-dict g.K.Sink-dict κs)
sent g κs t gate i = search (sendable, crosses, line_send, reader_send, writer_send, of_tally.the_send) depth 20

pub join_mut-requires-send-F : goal.join_mut-requires-send-F
join_mut-requires-send-F g c κs within =
    param_send 1 _ (sent g κs c.type_bounds.sync-T c.type_bounds.sync-G c.type_bounds.send-I)
