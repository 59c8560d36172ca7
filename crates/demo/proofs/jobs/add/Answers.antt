use Rattle.std.proofs.Common.{length}
use Rattle.ps_model.specs.Names.{is_name}
use Rattle.demo.proofs.AddedNames.{no_error}
use Rattle.demo.proofs.jobs.add.Goals as goal

pub unreachable-requires : goal.unreachable-requires
unreachable-requires c = no_error c.add.result c.in-Err.error (length c.args.names.now) (is_name c.args.name.now)
    c.args.names.now c.args.name.now c.in-Err.is c.in_default.not-OutOfMemory c.add.ensures.too_many
    c.add.ensures.bad_name c.add.ensures.repeats c.requires.few c.requires.name c.requires.once
