use Rattle.std.proofs.Common.{◌≡◌, ◌+◌, length, take, sym, ◌∙◌, subst}
use Rattle.std.proofs.lemmas.Result.{on_ok_weaker}
use Rattle.parts.specs.JobRows.{IsPermitted}
use Rattle.stages.proofs.Events.{before_next, room_there, event_idle, gained}
use Rattle.stages.proofs.Growth.{at_stage, of_stage}
use Rattle.stages.proofs.LineTitles.{seen}
use Rattle.stages.proofs.Raises.{raised_kept}
use Rattle.stages.proofs.schedule.run_event.Goals as goal

pub raise_one-requires-clause-next : goal.raise_one-requires-clause-next
raise_one-requires-clause-next g c κs within =
    at_stage _ c.args.stages.now c.args.s c.index-stages-s.result c.requires.stage (λ x. length x.items ≡ c.len-r.result)
    (sym c.len-r.ensures)

pub raise_one-requires-clause-before : goal.raise_one-requires-clause-before
raise_one-requires-clause-before g c κs within = before_next _ c.args.s c.len-r.result
    (seen _ c.args.stages.now c.args.s c.requires.stage)
    (at_stage _ c.args.stages.now c.args.s c.index-stages-s.result c.requires.stage
    (λ x. length x.items ≡ c.len-r.result) (sym c.len-r.ensures))
    (sym c.may_gain.ensures ∙ c.if-not-may_gain.false)

pub raise_one-requires-clause-room : goal.raise_one-requires-clause-room
raise_one-requires-clause-room g c κs within = room_there _ c.args.s c.len-r.result
    (at_stage _ c.args.stages.now c.args.s c.index-stages-s.result c.requires.stage
    (λ x. length x.items ≡ c.len-r.result) (sym c.len-r.ensures))
    c.requires.room

pub raise_one-requires-clause-permitted : goal.raise_one-requires-clause-permitted
raise_one-requires-clause-permitted g c κs within =
    let job = g.I.RowSource.job c.args.input.now in
    subst (IsPermitted (take job.n job.weights)) (sym c.len-r.ensures)
    (of_stage _ c.args.stages.now c.args.s c.index-stages-s.result c.requires.stage
    (λ x. IsPermitted (take job.n job.weights) (length x.items)) c.requires.permitted)

pub returns-then-not-may_gain-clause-lengths : goal.returns-then-not-may_gain-clause-lengths
returns-then-not-may_gain-clause-lengths g c =
    sym (event_idle _ c.args.s (sym c.may_gain.ensures ∙ c.if-not-may_gain.true))

pub returns-clause-kept : goal.returns-clause-kept
returns-clause-kept g c = raised_kept (c.len-r.result + 1) _ _ c.raise_one.ensures.grow

pub returns-clause-lengths : goal.returns-clause-lengths
returns-clause-lengths g c = on_ok_weaker c.raise_one.result
    (λ more. gained _ c.args.stages.now _ c.args.s c.len-r.result c.requires.stage
    (at_stage _ c.args.stages.now c.args.s c.index-stages-s.result c.requires.stage
    (λ x. length x.items ≡ c.len-r.result) (sym c.len-r.ensures))
    (sym c.may_gain.ensures ∙ c.if-not-may_gain.false) c.raise_one.ensures.grow c.raise_one.ensures.others more)
    c.raise_one.ensures.ok
