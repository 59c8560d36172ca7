use Rattle.std.proofs.Common.{sym, arith, ◌∙◌}
use Rattle.stages.proofs.RoundParts.{can_front, can_back, moved_both, put_both, ok_both, part_few, steps_few}
use Rattle.stages.proofs.workers.+halves.Goals as goal

pub advance_parts-advance_halves-first-requires-clause-front :
    goal.advance_parts-advance_halves-first-requires-clause-front
advance_parts-advance_halves-first-requires-clause-front g t c κs within = can_front
    _ c.args.plan.now c.split_at.result.0.now c.split_at.result.1.now c.args.stages.now
    c.split_at_mut-front.result.0.now c.split_at_mut-front.result.1.now c.split_at.ensures.by_index.0
    c.split_at_mut-front.ensures.value (c.split_at.ensures.front_len ∙ sym c.split_at_mut-front.ensures.front_len)
    c.requires.can

pub advance_parts-advance_halves-first-requires-clause-back :
    goal.advance_parts-advance_halves-first-requires-clause-back
advance_parts-advance_halves-first-requires-clause-back g t c κs within = can_back
    _ c.args.plan.now c.split_at.result.0.now c.split_at.result.1.now c.args.stages.now
    c.split_at_mut-front.result.0.now c.split_at_mut-front.result.1.now c.split_at.ensures.by_index.0
    c.split_at_mut-front.ensures.value (c.split_at.ensures.front_len ∙ sym c.split_at_mut-front.ensures.front_len)
    c.requires.can

pub advance_parts-both-requires : goal.advance_parts-both-requires
advance_parts-both-requires g t c = steps_few _ _
    (part_few _ _ _ _ _ (can_front
    _ c.args.plan.now c.split_at.result.0.now c.split_at.result.1.now c.args.stages.now
    c.split_at_mut-front.result.0.now c.split_at_mut-front.result.1.now c.split_at.ensures.by_index.0
    c.split_at_mut-front.ensures.value (c.split_at.ensures.front_len ∙ sym c.split_at_mut-front.ensures.front_len)
    c.requires.can)
    c.advance_halves-first.ensures.front_moved c.advance_halves-first.ensures.front_ticks
    (λ x. let low = (g.met.R.RowOut g.world.𝓛 g.world.𝓜 g.world.𝓡 (λ s a. a, λ p. p, λ p. p, λ c. c)).within x.row in
    let ahead = x.ahead in omega arith))
    (part_few _ _ _ _ _ (can_back
    _ c.args.plan.now c.split_at.result.0.now c.split_at.result.1.now c.args.stages.now
    c.split_at_mut-front.result.0.now c.split_at_mut-front.result.1.now c.split_at.ensures.by_index.0
    c.split_at_mut-front.ensures.value (c.split_at.ensures.front_len ∙ sym c.split_at_mut-front.ensures.front_len)
    c.requires.can)
    c.advance_halves-first.ensures.back_moved c.advance_halves-first.ensures.back_ticks
    (λ x. let low = (g.met.R.RowOut g.world.𝓛 g.world.𝓜 g.world.𝓡 (λ s a. a, λ p. p, λ p. p, λ c. c)).within x.row in
    let ahead = x.ahead in omega arith))

pub advance_parts-returns-clause-moved : goal.advance_parts-returns-clause-moved
advance_parts-returns-clause-moved g t c = moved_both
    _ c.args.plan.now c.split_at.result.0.now c.split_at.result.1.now c.args.stages.now
    c.split_at_mut-front.result.0.now c.split_at_mut-front.result.1.now c.split_at.ensures.by_index.0
    c.split_at_mut-front.ensures.value (c.split_at.ensures.front_len ∙ sym c.split_at_mut-front.ensures.front_len)
    _ _ c.advance_halves-first.ensures.front_moved c.advance_halves-first.ensures.back_moved

pub advance_parts-returns-clause-put : goal.advance_parts-returns-clause-put
advance_parts-returns-clause-put g t c = ok_both _ _ _ _ _ _ c.both.ensures.outcome
    c.advance_halves-first.ensures.front_put c.advance_halves-first.ensures.back_put (put_both
    _ c.args.plan.now c.split_at.result.0.now c.split_at.result.1.now c.args.stages.now
    c.split_at_mut-front.result.0.now c.split_at_mut-front.result.1.now c.split_at.ensures.by_index.0
    c.split_at_mut-front.ensures.value (c.split_at.ensures.front_len ∙ sym c.split_at_mut-front.ensures.front_len)
    _ _ c.advance_halves-first.ensures.front_moved c.advance_halves-first.ensures.back_moved)
