use Rattle.pipe.proofs.ReadersOf.{whole_line}
use Rattle.pipe.proofs.shared.SharedLine.into_parts.Goals as goal

pub returns-clause-whole : goal.returns-clause-whole
returns-clause-whole c = whole_line _ _ c.args.self.line.stages.items c.args.self.line.accepted c.args.self.stages
