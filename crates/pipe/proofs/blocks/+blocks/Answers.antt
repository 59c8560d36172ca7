use contract.Lifetimes.{Lfts}
use denote.Param.{param}
use denote.Param.Send.{IsSend, IsSync, param_send, sendable}
use Rattle.std.proofs.Crossing.{crosses}
use Rattle.std.proofs.Common.{◌+◌, arith}
use Rattle.pipe.proofs.Raises.{tally_grows}
use Rattle.pipe.proofs.Splits.{front_can, back_can, both_runs, both_raised, on_ok_both, ends}
use Rattle.pipe.proofs.Sent.{stage_send, reader_send, writer_send}
use Rattle.prepare.proofs.tally.Tally.TheSendSync as of_tally
use Rattle.pipe.proofs.blocks.+blocks.Lts-both.{arg-0-1}
use Rattle.pipe.proofs.blocks.+blocks.Given.{Over}
use Rattle.pipe.proofs.blocks.+blocks.Goals as goal

pub run_blocks-both-done-requires-clause-front : goal.run_blocks-both-done-requires-clause-front
run_blocks-both-done-requires-clause-front g t c κs within =
    front_can _ _ _ _ _ _ _ _ c.split_at_mut-mine.ensures.value c.split_at_mut-my_readers.ensures.value
    c.args.to _ c.min-size.result _ (let none = c.new-mine_count.ensures in omega arith) c.split_at_mut-mine.ensures.front_len
    c.split_at_mut-my_readers.ensures.front_len c.requires

pub run_blocks-both-done-requires-clause-back : goal.run_blocks-both-done-requires-clause-back
run_blocks-both-done-requires-clause-back g t c κs within =
    back_can _ _ _ _ _ _ _ _ c.split_at_mut-mine.ensures.value c.split_at_mut-my_readers.ensures.value
    c.args.to _ c.min-size.result _ c.requires.tally c.split_at_mut-mine.ensures.front_len c.split_at_mut-my_readers.ensures.front_len
    c.requires

pub run_blocks-merge-requires : goal.run_blocks-merge-requires
run_blocks-merge-requires g t c =
    let front = tally_grows (c.args.to + 1) c.args.to _ _ _ _ _ _
    (front_can _ _ _ _ _ _ _ _ c.split_at_mut-mine.ensures.value c.split_at_mut-my_readers.ensures.value
    c.args.to _ c.min-size.result _ (let none = c.new-mine_count.ensures in omega arith) c.split_at_mut-mine.ensures.front_len
    c.split_at_mut-my_readers.ensures.front_len c.requires)
    c.both-done.ensures.front (let p = c.requires.permitted in omega arith) in
    let back = tally_grows (c.args.to + 1) c.args.to _ _ _ _ _ _
    (back_can _ _ _ _ _ _ _ _ c.split_at_mut-mine.ensures.value c.split_at_mut-my_readers.ensures.value
    c.args.to _ c.min-size.result _ c.requires.tally c.split_at_mut-mine.ensures.front_len c.split_at_mut-my_readers.ensures.front_len
    c.requires)
    c.both-done.ensures.back (let p = c.requires.permitted in omega arith) in
    let none = c.new-mine_count.ensures in
    let low = c.requires.tally in
    omega arith

pub run_blocks-returns-clause-runs : goal.run_blocks-returns-clause-runs
run_blocks-returns-clause-runs g t c = ends
    (both_runs _ _ _ _ _ _ _ _ c.split_at_mut-mine.ensures.value c.split_at_mut-my_readers.ensures.value
    (c.args.to + 1) _ _ _ _ _ _ _ _ c.new-mine_count.ensures c.both-done.ensures.front c.both-done.ensures.back)
    c.merge.ensures

pub run_blocks-returns-clause-ok : goal.run_blocks-returns-clause-ok
run_blocks-returns-clause-ok g t c = on_ok_both _ _ _ _
    (both_raised _ _ _ _ _ _ c.split_at_mut-my_readers.result.0.now c.split_at_mut-my_readers.result.1.now c.split_at_mut-mine.ensures.value c.split_at_mut-my_readers.ensures.value
    (c.args.to + 1) _ _ _ _)
    c.both-done.ensures.front_ok c.both-done.ensures.back_ok

-- in a signature of its own, since the search tries each fact that it has
sent : (g : Over) (κs : Lfts 24) → IsSync (param 0 g.row.R) → IsSync (param 1 g.row.G)
    → IsSend (arg-0-1 g.row.R g.row.G g.R.laws g.G.laws g.R.Threads-dict g.R.Wait-dict g.G.Gate-dict κs)
sent g κs r y = search (sendable, crosses, stage_send, reader_send, writer_send, of_tally.the_send) depth 20

pub both-join_mut-rest-requires-send-F : goal.both-join_mut-rest-requires-send-F
both-join_mut-rest-requires-send-F g t c κs within = param_send 1 _ (sent g κs (search sendable) (search sendable))
