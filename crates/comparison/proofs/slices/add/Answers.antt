use Rattle.std.proofs.Common.{arith}
use Rattle.comparison.proofs.ByDegree.{term_added}
use Rattle.comparison.proofs.slices.add.Goals as goal

pub returns : goal.returns
returns c = term_added c.args.lists.now.items c.args.r c.index_mut.result.now c.push.new.self c.args.term
    (omega (arith, c.requires, c.args.lists.now.ok.0)) c.index_mut.ensures.value c.in_ok-push.ensures.items
