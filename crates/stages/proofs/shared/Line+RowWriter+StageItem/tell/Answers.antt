use Rattle.std.proofs.Common.{ap, ◌∙◌}
use Rattle.stages.specs.States.{StageState}
use Rattle.stages.proofs.LineTitles.{within, some_there}
use Rattle.stages.proofs.Tellings.{set_seen}
use Rattle.stages.proofs.shared.Line+RowWriter+StageItem.tell.Goals as goal

pub invariant_of-self-clause-of_job : goal.invariant_of-self-clause-of_job
invariant_of-self-clause-of_job c some = set_seen _ c.args.self.now.stages.items c.args.stage c.index_mut.result.now _ _
    (within _ _ _ c.requires) c.index_mut.ensures.value (ap (λ (s : StageState). s.title) c.tell.ensures.state)
    ∙ c.args.self.now.of_job (some_there c.args.stage _ (within _ _ _ c.requires))

pub returns-clause-states : goal.returns-clause-states
returns-clause-states c = set_seen _ c.args.self.now.stages.items c.args.stage c.index_mut.result.now _ _
    (within _ _ _ c.requires) c.index_mut.ensures.value c.tell.ensures.state

pub returns-clause-published : goal.returns-clause-published
returns-clause-published c = set_seen _ c.args.self.now.stages.items c.args.stage c.index_mut.result.now _ _
    (within _ _ _ c.requires) c.index_mut.ensures.value c.tell.ensures.published
