use Rattle.std.proofs.Common.{◌∙◌}
use Rattle.session.proofs.sessions.Session.roots.Goals as goal

pub returns : goal.returns
returns g c = c.stages.ensures.count ∙ c.args.self.now.holds.of_job.count
