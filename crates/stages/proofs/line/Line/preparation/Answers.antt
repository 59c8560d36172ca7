use Rattle.std.proofs.Common.{subst, IfSome}
use Rattle.std.specs.Arc.{arc_value}
use Rattle.stages.specs.Splitters.{IsPreparationOf}
use Rattle.stages.proofs.LineTitles.{holds_there, line-title, within, some_there}
use Rattle.stages.proofs.line.Line.preparation.Goals as goal

pub returns-clause-rows : goal.returns-clause-rows
returns-clause-rows g c = holds_there
    (λ s. IfSome c.preparation.result (λ prep. IsPreparationOf
    (record { job = arc_value c.args.self.now.job; stage = c.args.stage }) s.ring prep.now))
    _ _ _ _ c.index.ensures c.requires
    (subst (λ t. IfSome c.preparation.result (λ prep. IsPreparationOf t c.index.result.now.splitter.ring prep.now))
    (line-title _ _ _ (c.args.self.now.of_job (some_there c.args.stage _ (within _ _ _ c.requires))) c.args.stage
    c.index.result.now c.index.ensures (within _ _ _ c.requires)) c.preparation.ensures.rows)
