use Rattle.std.proofs.Common.{◌∙◌, ap, sym}
use Rattle.stages.specs.Lines.{titles_of}
use Rattle.job_tests.proofs.Published.{titles_back}
use Rattle.job_tests.proofs.shared_lines.publish_outside.Goals as goal

pub give_stages-requires-clause-titles : goal.give_stages-requires-clause-titles
give_stages-requires-clause-titles g c κs = titles_back _ c.take_stages-stages.result _ _ _
    c.deref_mut.ensures.value c.publish_first-published.ensures
    (c.take_stages-stages.ensures.titles c.requires ∙ ap titles_of (sym c.take_stages-stages.ensures.job))
