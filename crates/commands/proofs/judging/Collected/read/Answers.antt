use Rattle.std.proofs.Common.{◌∙◌, ap}
use Rattle.ps_model.specs.declared.job.JobData.{JobData}
use Rattle.commands.proofs.CheckSteps.{names_enough, read_is}
use Rattle.commands.proofs.judging.Collected.read.Goals as goal

pub read_block-requires-clause-named : goal.read_block-requires-clause-named
read_block-requires-clause-named c = names_enough c.ring.result c.args.self.now.job.names c.args.self.now.job.job
    c.names.result.now c.names-2.result.now c.names.ensures c.names-2.ensures c.len-names.ensures.variables
    c.ring.ensures
    c.requires.names

pub returns : goal.returns
returns c = read_is c.args.self.now.job.names c.args.self.now.job.job c.args.self.now.text.items c.ring.result
    c.has_lead.result (record { ring_is = c.ring.ensures; shown_is = c.has_lead.ensures }) _ _ _ c.names-2.ensures
    (c.as_slice.ensures ∙ ap (λ (j : JobData). j.roots) (c.deref.ensures ∙ c.data.ensures)) c.as_slice-2.ensures.value
    c.read_block.result c.read_block.ensures.block c.read_block.ensures.refused
