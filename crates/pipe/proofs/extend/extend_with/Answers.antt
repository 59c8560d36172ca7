use Rattle.std.proofs.Common.{◌+◌}
use Rattle.std.proofs.lemmas.Result.{on_ok_weaker}
use Rattle.pipe.proofs.Rounds.{runs_same}
use Rattle.pipe.proofs.Extending.{published_can, published_runs, published_extended}
use Rattle.pipe.proofs.extend.extend_with.Goals as goal

pub returns-in_err-publish_all-clause-runs : goal.returns-in_err-publish_all-clause-runs
returns-in_err-publish_all-clause-runs g c =
    published_runs (c.args.to + 1) _ _ _ _ _ _ _ c.in_err-publish_all.ensures.same (runs_same (c.args.to + 1) _ _ _)

pub run_stages-requires-clause-can : goal.run_stages-requires-clause-can
run_stages-requires-clause-can g c κs within = published_can _ c.args.to _ _ _ _ c.requires c.publish_all.ensures.same

pub returns-clause-runs : goal.returns-clause-runs
returns-clause-runs g c =
    published_runs (c.args.to + 1) _ _ _ _ _ _ _ c.publish_all.ensures.same c.run_stages.ensures.runs

pub returns-clause-ok : goal.returns-clause-ok
returns-clause-ok g c = on_ok_weaker c.run_stages.result
    (published_extended (c.args.to + 1) _ _ _ _ c.publish_all.ensures.same) c.run_stages.ensures.ok
