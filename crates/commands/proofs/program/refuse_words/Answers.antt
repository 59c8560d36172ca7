use Rattle.commands.proofs.Told.{all_begins}
use Rattle.commands.proofs.program.refuse_words.Goals as goal

pub returns-in-Ok-clause-part : goal.returns-in-Ok-clause-part
returns-in-Ok-clause-part g c = all_begins _ _ _ c.in-Ok.ensures.ok
