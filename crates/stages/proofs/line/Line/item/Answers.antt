use Rattle.std.proofs.Common.{◌<◌, length, subst}
use Rattle.std.specs.Arc.{arc_value}
use Rattle.stages.specs.Items.{IsItem}
use Rattle.stages.proofs.LineTitles.{holds_at, line-title, within, some_there}
use Rattle.stages.proofs.line.Line.item.Goals as goal

pub item-requires-after_bounds : goal.item-requires-after_bounds
item-requires-after_bounds g c = λ ks lives.
    holds_at (λ s. c.args.r < length s.items) _ _ _ _ c.index.ensures c.requires.stage c.requires.degree

pub returns-clause-fits : goal.returns-clause-fits
returns-clause-fits g c = subst (λ t. IsItem t c.args.r (arc_value c.item.result.now))
    (line-title _ _ _ (c.args.self.now.of_job (some_there c.args.stage _ (within _ _ _ c.requires.stage))) c.args.stage
    c.index.result.now c.index.ensures (within _ _ _ c.requires.stage)) c.item.ensures.fits
