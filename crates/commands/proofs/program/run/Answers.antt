use Rattle.std.proofs.Common.{map, string_bytes}
use Rattle.std.specs.declared.alloc.Global.{Global}
use Rattle.commands.specs.Runs.{Ran}
use Rattle.commands.specs.Words.{work_in}
use Rattle.commands.proofs.RunsDone.{stops_first}
use Rattle.commands.proofs.RunsTold.{ran_complete, ran_found, ran_outputs, ran_usage}
use Rattle.commands.proofs.WordsAsked.{few_rounds, no_pipe}
use Rattle.commands.proofs.program.run.Given.{Over}
use Rattle.commands.proofs.program.run.Goals as goal

pub run_command-requires-clause-workers : goal.run_command-requires-clause-workers
run_command-requires-clause-workers g c = λ κs outlives.
    few_rounds _ c.in-Ok-Some.command ((c.in-Ok-Some.ensures.named c.in-Ok-Some.command).0 c.in-Ok-Some.field-0-is)

pub run_command-requires-clause-no_pipe : goal.run_command-requires-clause-no_pipe
run_command-requires-clause-no_pipe g c = λ κs outlives.
    no_pipe _ c.in-Ok-Some.command c.requires.asks
    ((c.in-Ok-Some.ensures.named c.in-Ok-Some.command).0 c.in-Ok-Some.field-0-is)

-- the run of the command that the words name
named : (g : Over) (c : goal.After-run_command g) → Ran (work_in (map (string_bytes {Z = Global}) c.args.words.now))
    c.run_command.result (g.S.Source.left c.args.source.now) (g.S.Source.left c.run_command.new.source)
    (g.S.Source.faults c.args.source.now) (g.S.Source.faults c.run_command.new.source)
    (g.K.Sink.written c.args.sink.now) (g.K.Sink.written c.run_command.new.sink) (g.K.Sink.faults c.args.sink.now)
    (g.K.Sink.faults c.run_command.new.sink) c.args.tally.now c.run_command.new.tally
named g c = ran_found _ _ _ c.in-Ok-Some.ensures.parsed c.in-Ok-Some.field-0-is c.run_command.ensures.ran

pub returns-in-Ok-Some-clause-text : goal.returns-in-Ok-Some-clause-text
returns-in-Ok-Some-clause-text g c = ran_outputs (named g c)

pub returns-in-Ok-Some-clause-answers : goal.returns-in-Ok-Some-clause-answers
returns-in-Ok-Some-clause-answers g c = (named g c).answers

pub returns-in-Ok-Some-clause-part : goal.returns-in-Ok-Some-clause-part
returns-in-Ok-Some-clause-part g c = (named g c).part

pub returns-in-Ok-Some-clause-complete : goal.returns-in-Ok-Some-clause-complete
returns-in-Ok-Some-clause-complete g c = ran_complete (named g c)

-- the words are refused
refused : (g : Over) (c : goal.After-refuse_words g) → Ran (work_in (map (string_bytes {Z = Global}) c.args.words.now))
    c.refuse_words.result (g.S.Source.left c.args.source.now) (g.S.Source.left c.args.source.now)
    (g.S.Source.faults c.args.source.now) (g.S.Source.faults c.args.source.now) (g.K.Sink.written c.args.sink.now)
    (g.K.Sink.written c.refuse_words.new.sink) (g.K.Sink.faults c.args.sink.now)
    (g.K.Sink.faults c.refuse_words.new.sink) c.args.tally.now c.args.tally.now
refused g c =
    let told = c.refuse_words.ensures in
    ran_found _ _ _ c.in-Ok-None.ensures.parsed c.in-Ok-None.field-0-is
    (ran_usage (g.S.Source.left c.args.source.now) (g.S.Source.faults c.args.source.now)
    (g.K.Sink.written c.args.sink.now) (g.K.Sink.written c.refuse_words.new.sink) (g.K.Sink.faults c.args.sink.now)
    (g.K.Sink.faults c.refuse_words.new.sink) c.args.tally.now c.refuse_words.result told.done told.part
    told.write_fault told.faults)

pub returns-in-Ok-None-clause-text : goal.returns-in-Ok-None-clause-text
returns-in-Ok-None-clause-text g c = ran_outputs (refused g c)

pub returns-in-Ok-None-clause-part : goal.returns-in-Ok-None-clause-part
returns-in-Ok-None-clause-part g c = (refused g c).part

pub returns-in-Ok-None-clause-complete : goal.returns-in-Ok-None-clause-complete
returns-in-Ok-None-clause-complete g c = ran_complete (refused g c)

pub returns-in-Err-clause-part : goal.returns-in-Err-clause-part
returns-in-Err-clause-part g c = λ stopped.
    stops_first (work_in (map (string_bytes {Z = Global}) c.args.words.now)) (g.S.Source.left c.args.source.now)
    (g.K.Sink.written c.args.sink.now) c.args.tally.now
