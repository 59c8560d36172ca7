use Rattle.std.proofs.Common.{◌+◌, ◌≤◌, ◌<◌, length, arith}
use Rattle.stages.proofs.Growth.{at_stage}
use Rattle.stages.proofs.LineTitles.{each_there, holds_there, seen}
use Rattle.stages.proofs.RoundPlans.{lacks_here}
use Rattle.stages.proofs.round.lacks_item.Goals as goal

pub returns-then-len-to-clause-some : goal.returns-then-len-to-clause-some
returns-then-len-to-clause-some g c = λ yes. lacks_here c.args.to c.loop-s.s _
    (seen _ c.args.stages.now c.loop-s.s (omega arith))
    (λ k d low. at_stage _ c.args.stages.now k c.index-stages-s.result (omega arith) (λ s. c.args.to < length s.items)
    (c.loop-s.invariant k c.index-stages-s.result low) d)
    (λ d. holds_there (λ s. length s.items ≤ c.args.to) _ c.args.stages.now c.loop-s.s c.index-stages-s.result
    c.index-stages-s.is (seen _ c.args.stages.now c.loop-s.s (omega arith))
    (let low = c.if-len-to.true in let is = c.len.ensures in omega arith) d)

pub returns-clause-none : goal.returns-clause-none
returns-clause-none g c = λ no. each_there (λ _ s. c.args.to + 1 ≤ length s.items) _ _
    (λ k d lt.
    let more = c.loop-s.invariant k d (let past = c.loop-s-test.false in omega arith) in
    omega arith)
