use Rattle.commands.proofs.Told.{not_told}
use Rattle.commands.proofs.refusing.refuse_end.Goals as goal

pub returns-in-Err : goal.returns-in-Err
returns-in-Err g c = not_told _ _ _
