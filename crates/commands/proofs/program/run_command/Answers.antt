use Rattle.std.proofs.Common.{◌∙◌, ap, sym, subst}
use Rattle.words.specs.declared.command.Command.TheVariants.{Factor}
use Rattle.commands.specs.Runs.{Ran}
use Rattle.commands.specs.Words.{work_of}
use Rattle.commands.proofs.program.run_command.Goals as goal

pub run_factor-requires-clause-workers : goal.run_factor-requires-clause-workers
run_factor-requires-clause-workers g c = λ κs outlives n is.
    c.requires.workers n (c.in-Factor.is ∙ ap Factor is)

pub run_factor-requires-clause-no_pipe : goal.run_factor-requires-clause-no_pipe
run_factor-requires-clause-no_pipe g c = λ κs outlives n is.
    c.requires.no_pipe n (c.in-Factor.is ∙ ap Factor is)

pub returns-in-Expand-clause-ran : goal.returns-in-Expand-clause-ran
returns-in-Expand-clause-ran g c =
    subst (λ w. Ran w c.run_expand.result
    (g.S.Source.left c.args.source.now) (g.S.Source.left c.run_expand.new.source)
    (g.S.Source.faults c.args.source.now) (g.S.Source.faults c.run_expand.new.source)
    (g.K.Sink.written c.args.sink.now) (g.K.Sink.written c.run_expand.new.sink)
    (g.K.Sink.faults c.args.sink.now) (g.K.Sink.faults c.run_expand.new.sink)
    c.args.tally.now c.args.tally.now) (sym (ap work_of c.in-Expand.is)) (c.run_expand.ensures c.args.tally.now)

pub returns-in-Demo-clause-ran : goal.returns-in-Demo-clause-ran
returns-in-Demo-clause-ran g c =
    subst (λ w. Ran w c.run_demo.result
    (g.S.Source.left c.args.source.now) (g.S.Source.left c.args.source.now)
    (g.S.Source.faults c.args.source.now) (g.S.Source.faults c.args.source.now)
    (g.K.Sink.written c.args.sink.now) (g.K.Sink.written c.run_demo.new.sink)
    (g.K.Sink.faults c.args.sink.now) (g.K.Sink.faults c.run_demo.new.sink)
    c.args.tally.now c.run_demo.new.tally) (sym (ap work_of c.in-Demo.is))
    (c.run_demo.ensures (g.S.Source.left c.args.source.now) (g.S.Source.faults c.args.source.now))
