use Rattle.std.proofs.Common.{arith}
use Rattle.stages.proofs.RoundParts.{turn_start, turn_all, turn_small, turn_can, turn_more, turn_stop, turn_ticks}
use Rattle.stages.proofs.Rounds.{prepared_few}
use Rattle.stages.proofs.workers.advance_all.Goals as goal

pub loop-s-init : goal.loop-s-init
loop-s-init g c = turn_start _ _ _

pub advance_one-requires-clause-can : goal.advance_one-requires-clause-can
advance_one-requires-clause-can g c κs within =
    turn_can _ c.args.plan.now c.loop-s.s _ c.loop-s.stages
    c.index-stages-s.result c.index-plan-s.result _ _ c.loop-s.invariant (omega arith) c.requires.can c.index-plan-s.is

pub advance_one-requires-clause-tally : goal.advance_one-requires-clause-tally
advance_one-requires-clause-tally g c κs within =
    turn_small _ _ _ _ c.loop-s.invariant.ticks c.requires.fresh
    (prepared_few _ c.loop-s.stages
    (let few = c.requires.can.few in let same = c.loop-s.invariant.count in omega arith)
    (λ x. let low = (g.met.R.RowOut g.world.𝓛 g.world.𝓜 g.world.𝓡 (λ s a. a, λ p. p, λ p. p, λ c. c)).within x.row in
    let ahead = x.ahead in omega arith))

pub loop-s-preserved : goal.loop-s-preserved
loop-s-preserved g c = turn_more _ c.args.plan.now c.loop-s.s _ c.loop-s.stages
    c.index-stages-s.result c.index-plan-s.result _ _ c.loop-s.invariant (omega arith) c.requires.can c.index-plan-s.is
    c.advance_one.new.stage _ c.in_ok-advance_one.ensures.moves c.in_ok-advance_one.ensures.ticks
    c.in_ok-advance_one.ensures.put

pub returns-in_err-advance_one-clause-moved : goal.returns-in_err-advance_one-clause-moved
returns-in_err-advance_one-clause-moved g c =
    turn_stop _ c.args.plan.now c.loop-s.s _ c.loop-s.stages
    c.index-stages-s.result c.index-plan-s.result _ _ c.loop-s.invariant (omega arith) c.requires.can c.index-plan-s.is
    c.advance_one.new.stage _ c.in_err-advance_one.ensures.moves c.in_err-advance_one.ensures.ticks

pub returns-in_err-advance_one-clause-ticks : goal.returns-in_err-advance_one-clause-ticks
returns-in_err-advance_one-clause-ticks g c =
    turn_ticks _ c.args.plan.now c.loop-s.s _ c.loop-s.stages
    c.index-stages-s.result c.index-plan-s.result _ _ c.loop-s.invariant (omega arith) c.requires.can c.index-plan-s.is
    c.advance_one.new.stage _ c.in_err-advance_one.ensures.moves c.in_err-advance_one.ensures.ticks

pub returns-clause-moved : goal.returns-clause-moved
returns-clause-moved g c = (turn_all _ _ _ c.args.stages.now _ _ _ c.loop-s.invariant
    (let past = c.loop-s-test.false in omega arith)).0

pub returns-clause-put : goal.returns-clause-put
returns-clause-put g c = (turn_all _ _ _ c.args.stages.now _ _ _ c.loop-s.invariant
    (let past = c.loop-s-test.false in omega arith)).1
