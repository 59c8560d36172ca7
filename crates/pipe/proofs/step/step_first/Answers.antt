use Rattle.pipe.specs.Works.{work_of}
use Rattle.pipe.proofs.Steps.{first_takes}
use Rattle.pipe.proofs.step.step_first.Goals as goal

pub put_next-requires-clause-row : goal.put_next-requires-clause-row
put_next-requires-clause-row g c =
    first_takes _ (work_of c.args.stage.now) c.args.r _ _ c.requires.first c.requires.accepted c.requires.next c.in_ok-row.ensures.row
    c.deref.ensures.value
