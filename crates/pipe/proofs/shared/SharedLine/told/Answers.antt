use Rattle.pipe.proofs.ReadersOf.{name_there}
use Rattle.pipe.proofs.shared.SharedLine.told.Goals as goal

pub returns-clause-reader : goal.returns-clause-reader
returns-clause-reader c = name_there _ _ _ c.args.stage c.args.self.now.readers c.requires c.tell.ensures.name
