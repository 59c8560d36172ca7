use Rattle.std.proofs.Common.{◌+◌, arith, refl, ◌∙◌}
use Rattle.pipe.proofs.Raises.{can_on}
use Rattle.pipe.proofs.Firsts.{first_none, first_goes_on, first_tally, first_twice, first_weaker, first_more}
use Rattle.pipe.proofs.first.run_first.Goals as goal

pub first_degree-requires-clause-first : goal.first_degree-requires-clause-first
first_degree-requires-clause-first g c κs within =
    first_goes_on c.loop-r.r c.loop-r.r c.args.to _ _ _ _ c.requires.first c.loop-r.invariant.raised.runs.first
    c.loop-r.invariant.raised.first.shown (omega arith) (let p = c.requires.can.permitted in omega arith)
    c.loop-r.invariant.source

pub first_degree-requires-clause-can : goal.first_degree-requires-clause-can
first_degree-requires-clause-can g c κs within =
    can_on c.loop-r.r c.loop-r.r c.args.to _ _ _ _ _ c.requires.can c.loop-r.invariant.raised.runs.works
    c.loop-r.invariant.raised.runs.readers c.loop-r.invariant.raised.raised.shown (omega arith)
    (let p = c.requires.can.permitted in omega arith)

pub first_degree-requires-clause-tally : goal.first_degree-requires-clause-tally
first_degree-requires-clause-tally g c κs within =
    let grown = first_tally c.loop-r.r c.args.to _ _ _ _ _ _ _ _ _ c.requires.first c.requires.can
    c.loop-r.invariant.raised.runs (let p = c.requires.can.permitted in omega arith) in
    let low = c.requires.can.tally in
    omega arith

pub returns-in-Err-clause-runs : goal.returns-in-Err-clause-runs
returns-in-Err-clause-runs g c =
    first_twice c.loop-r.r (c.args.to + 1) (omega arith) _ _ _ _ _ _ _ _ _ _ _ _ c.loop-r.invariant.raised.runs
    (first_weaker (c.loop-r.r + 1) (c.args.to + 1) (omega arith) _ _ _ _ _ _ _ _ c.first_degree.ensures.runs)

pub loop-r-preserved : goal.loop-r-preserved
loop-r-preserved g c = record {
  raised = first_more c.loop-r.r _ _ _ _ _ _ _ _ _ _ _ _ c.loop-r.invariant.raised c.first_degree.ensures.runs
      c.in_default.ensures.first_ok c.in_default.ensures.ok;
  source = c.first_degree.ensures.source ∙ c.loop-r.invariant.source;
}

pub loop-r-init : goal.loop-r-init
loop-r-init g c = record { raised = first_none _ _ _ _ _ _ c.requires.first c.requires.can; source = refl }

pub returns-clause-runs : goal.returns-clause-runs
returns-clause-runs g c = first_weaker c.loop-r.r (c.args.to + 1) (omega arith) _ _ _ _ _ _ _ _ c.loop-r.invariant.raised.runs
