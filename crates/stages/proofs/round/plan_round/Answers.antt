use Rattle.std.proofs.Common.{map, take, sym, subst, ◌∙◌, refl, arith}
use Rattle.parts.specs.JobRows.{IsPermitted}
use Rattle.stages.specs.Lines.{AreStagesOf}
use Rattle.stages.specs.Rounds.{Planned}
use Rattle.stages.specs.States.{StageState, state_by}
use Rattle.stages.specs.declared.stage.Stage.{Stage}
use Rattle.stages.proofs.RoundPlans.{plans_start, plans_more, plans_all}
use Rattle.stages.proofs.round.plan_round.Goals as goal

pub loop-s-init : goal.loop-s-init
loop-s-init g c = record {
  planned = plans_start _ _ _ _ c.in_ok-plan.ensures.items;
  source = refl;
  room = let room = c.in_ok-plan.ensures.capacity in omega arith;
}

pub upstream_at-requires-clause-line : goal.upstream_at-requires-clause-line
upstream_at-requires-clause-line g c κs within =
    let state : Stage g.row.R.Denot g.R.RowOut → StageState = λ s.
    state_by g.R.RowOut.capacity g.R.RowOut.name g.R.RowOut.items s.splitter s.row in
    subst (λ j. AreStagesOf j (map state c.args.stages.now)) (sym c.loop-s.invariant.source) c.requires.line

pub upstream_at-requires-clause-permitted : goal.upstream_at-requires-clause-permitted
upstream_at-requires-clause-permitted g c κs within =
    subst (λ j. IsPermitted (take j.n j.weights) c.args.to) (sym c.loop-s.invariant.source) c.requires.permitted

pub push_reserved-requires : goal.push_reserved-requires
push_reserved-requires g c =
    let room = c.loop-s.invariant.room in
    let count = c.loop-s.invariant.planned.count in
    let len = c.loop-s.plan.ok.0 in
    omega arith

pub loop-s-preserved : goal.loop-s-preserved
loop-s-preserved g c =
    let state : Stage g.row.R.Denot g.R.RowOut → StageState = λ s.
    state_by g.R.RowOut.capacity g.R.RowOut.name g.R.RowOut.items s.splitter s.row in record {
      planned = plans_more c.args.to (g.I.RowSource.job c.args.input.now) (map state c.args.stages.now)
          c.loop-s.plan.items c.push_reserved.new.self.items c.loop-s.s c.in_ok-planned.planned
          c.push_reserved.ensures.items c.loop-s.invariant.planned
          (subst (λ j. (d : StageState)
          → Planned c.args.to j (map state c.args.stages.now) c.loop-s.s d c.in_ok-planned.planned)
          c.loop-s.invariant.source c.in_ok-planned.ensures.planned);
      source = c.in_ok-planned.ensures.source ∙ c.loop-s.invariant.source;
      room = let room = c.loop-s.invariant.room in let same = c.push_reserved.ensures.capacity in omega arith;
    }

pub returns-clause-plan : goal.returns-clause-plan
returns-clause-plan g c = plans_all _ _ _ c.args.stages.now _ _ c.loop-s.invariant.planned
    (let past = c.loop-s-test.false in omega arith)
