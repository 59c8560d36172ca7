use Rattle.std.proofs.Common.{map, subst, sym, arith}
use Rattle.stages.specs.Rounds.{IsPlan, CanAdvance}
use Rattle.stages.specs.States.{StageState, state_by}
use Rattle.stages.specs.declared.stage.Stage.{Stage}
use Rattle.stages.proofs.LineTitles.{few_roots}
use Rattle.stages.proofs.Rounds.{prepared_few}
use Rattle.stages.proofs.RoundPlans.{can_advance, round_grows, round_falls, round_done, merge_fits}
use Rattle.stages.proofs.round.raise_round.Goals as goal

pub advance_parts-outcome-requires-clause-can : goal.advance_parts-outcome-requires-clause-can
advance_parts-outcome-requires-clause-can g c κs within =
    let state : Stage g.row.R.Denot g.R.RowOut → StageState = λ s.
    state_by g.R.RowOut.capacity g.R.RowOut.name g.R.RowOut.items s.splitter s.row in
    subst (λ l. CanAdvance l (map state c.args.stages.now)) (sym c.deref.ensures.value)
    (can_advance c.args.to _ c.in_ok-plan.plan.items _ c.in_ok-plan.ensures.plan c.requires.line c.requires.room)

pub merge-requires : goal.merge-requires
merge-requires g c =
    let few = few_roots (g.I.RowSource.job c.args.input.now) c.requires.line.accepted in
    merge_fits c.args.tally.now _ _ _ c.advance_parts-outcome.ensures.ticks
    (prepared_few _ c.args.stages.now (let count = c.requires.line.count in omega arith)
    (λ x. let low = (g.met.R.RowOut g.world.𝓛 g.world.𝓜 g.world.𝓡 (λ s a. a, λ p. p, λ p. p, λ c. c)).within x.row in
    let ahead = x.ahead in omega arith))
    (prepared_few _ c.advance_parts-outcome.new.stages
    (let count = c.requires.line.count in let same = c.advance_parts-outcome.ensures.moved.count in omega arith)
    (λ x. let low = (g.met.R.RowOut g.world.𝓛 g.world.𝓜 g.world.𝓡 (λ s a. a, λ p. p, λ p. p, λ c. c)).within x.row in
    let ahead = x.ahead in omega arith))
    c.requires.tally

pub returns-clause-grow : goal.returns-clause-grow
returns-clause-grow g c =
    let state : Stage g.row.R.Denot g.R.RowOut → StageState = λ s.
    state_by g.R.RowOut.capacity g.R.RowOut.name g.R.RowOut.items s.splitter s.row in
    round_grows c.args.to _ _ _
    (subst (IsPlan c.args.to (g.I.RowSource.job c.args.input.now) (map state c.args.stages.now))
    (sym c.deref.ensures.value) c.in_ok-plan.ensures.plan) _ c.advance_parts-outcome.ensures.moved

pub returns-clause-falling : goal.returns-clause-falling
returns-clause-falling g c =
    let state : Stage g.row.R.Denot g.R.RowOut → StageState = λ s.
    state_by g.R.RowOut.capacity g.R.RowOut.name g.R.RowOut.items s.splitter s.row in
    round_falls c.args.to _ _ _
    (subst (IsPlan c.args.to (g.I.RowSource.job c.args.input.now) (map state c.args.stages.now))
    (sym c.deref.ensures.value) c.in_ok-plan.ensures.plan) _ c.advance_parts-outcome.ensures.moved

pub returns-clause-ok : goal.returns-clause-ok
returns-clause-ok g c =
    let state : Stage g.row.R.Denot g.R.RowOut → StageState = λ s.
    state_by g.R.RowOut.capacity g.R.RowOut.name g.R.RowOut.items s.splitter s.row in
    round_done c.args.to _ _ _
    (subst (IsPlan c.args.to (g.I.RowSource.job c.args.input.now) (map state c.args.stages.now))
    (sym c.deref.ensures.value) c.in_ok-plan.ensures.plan) _ c.advance_parts-outcome.ensures.moved _
    c.advance_parts-outcome.ensures.put
