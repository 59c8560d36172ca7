use Rattle.commands.proofs.Told.{told_whole}
use Rattle.commands.proofs.refusing.tell.Goals as goal

pub returns-in-Ok : goal.returns-in-Ok
returns-in-Ok g c = told_whole _ _ _ _ _ c.in-Ok.ensures.ok c.in-Ok.ensures.faults
