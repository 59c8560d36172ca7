use Rattle.commands.specs.declared.judging.Behind.TheVariants.{End}
use Rattle.commands.proofs.CheckSteps.{read_by, read_refused, unpermitted}
use Rattle.commands.proofs.judging.Collected.judge.Goals as goal

pub compare-requires-clause-read : goal.compare-requires-clause-read
compare-requires-clause-read g c = (
  c.args.self.text.items,
  read_by c.args.self.job.names c.args.self.job.job c.requires.accepted c.requires.names c.args.self.text.items
      c.read.result c.read.ensures c.in-Ok.block c.in-Ok.is,
)

pub returns-in-Ok : goal.returns-in-Ok
returns-in-Ok g c = c.compare.ensures c.args.self.text.items c.args.self.first c.args.next
    (read_by c.args.self.job.names c.args.self.job.job c.requires.accepted c.requires.names c.args.self.text.items
    c.read.result c.read.ensures c.in-Ok.block c.in-Ok.is)

pub refuse_block-requires-clause-permitted : goal.refuse_block-requires-clause-permitted
refuse_block-requires-clause-permitted g c = unpermitted c.args.self.job.names c.args.self.job.job c.requires.accepted
    c.requires.names c.args.self.text.items c.read.result c.read.ensures c.in-Err.error c.in-Err.is c.ring.result
    c.ring.ensures

pub returns-in-Err : goal.returns-in-Err
returns-in-Err g c = read_refused c.args.self.job.names c.args.self.job.job c.requires.accepted c.requires.names
    c.args.self.text.items c.read.result c.read.ensures c.in-Err.error c.in-Err.is c.ring.result c.ring.ensures
    c.args.self.first c.args.next End c.refuse_block.result _ _ _ _ c.args.tally.now c.refuse_block.ensures
