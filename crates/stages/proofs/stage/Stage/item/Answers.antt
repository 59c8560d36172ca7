use Rattle.std.proofs.Common.{subst}
use Rattle.std.specs.Arc.{arc_value}
use Rattle.stages.specs.Items.{IsItem}
use Rattle.stages.proofs.stage.Stage.item.Goals as goal

pub returns-clause-fits : goal.returns-clause-fits
returns-clause-fits g c = subst (λ t. IsItem t c.args.r (arc_value c.get.result.now)) c.args.self.now.same_title
    c.get.ensures.fits
