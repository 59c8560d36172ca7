use Rattle.commands.specs.declared.judging.Behind.TheVariants.{TooLong}
use Rattle.commands.proofs.CheckSteps.{read_whole, read_refused, unpermitted}
use Rattle.commands.proofs.judging.Collected.too_long.Goals as goal

pub returns-in-Ok : goal.returns-in-Ok
returns-in-Ok g c = λ tally. read_whole c.args.self.job.names c.args.self.job.job c.requires.accepted c.requires.names
    c.args.self.text.items c.read.result c.read.ensures _ c.in-Ok.is c.args.self.first c.args.next
    c.refuse_line.result _ _ _ _ tally c.refuse_line.ensures

pub refuse_block-requires-clause-permitted : goal.refuse_block-requires-clause-permitted
refuse_block-requires-clause-permitted g c = unpermitted c.args.self.job.names c.args.self.job.job c.requires.accepted
    c.requires.names c.args.self.text.items c.read.result c.read.ensures c.in-Err.error c.in-Err.is c.ring.result
    c.ring.ensures

pub returns : goal.returns
returns g c = λ tally. read_refused c.args.self.job.names c.args.self.job.job c.requires.accepted
    c.requires.names c.args.self.text.items c.read.result c.read.ensures c.in-Err.error c.in-Err.is c.ring.result
    c.ring.ensures c.args.self.first c.args.next TooLong c.refuse_block.result _ _ _ _ tally c.refuse_block.ensures
