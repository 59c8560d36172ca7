use Rattle.std.proofs.Common.{subst, sym, Some}
use Rattle.commands.specs.Runs.{Ran}
use Rattle.commands.specs.Words.{Script}
use Rattle.commands.specs.declared.command.ScriptCommand.TheVariants.{Expand}
use Rattle.commands.proofs.program.run_expand.Goals as goal

pub returns-in-Err : goal.returns-in-Err
returns-in-Err g c = λ tally.
    subst (λ n. Ran (Some (Script Expand)) n (g.S.Source.left c.args.source.now)
    (g.S.Source.left c.expand_script.new.source) (g.S.Source.faults c.args.source.now)
    (g.S.Source.faults c.expand_script.new.source) (g.K.Sink.written c.args.sink.now)
    (g.K.Sink.written c.expand_script.new.sink) (g.K.Sink.faults c.args.sink.now)
    (g.K.Sink.faults c.expand_script.new.sink) tally tally) (sym c.status.ensures) (c.in-Err.ensures tally)
