use Rattle.std.proofs.Common.{◌∙◌, subst, sym}
use Rattle.script.specs.Header as header
use Rattle.script.specs.Refusals.{line_refused}
use Rattle.script.specs.Sayings.{Refuses}
use Rattle.script.specs.Script as script
use Rattle.script.specs.declared.refusal.Refusal.TheVariants.{LineTooLong}
use Rattle.commands.specs.Lines.{Refuses as Told}
use Rattle.commands.specs.Readings.{Begun}
use Rattle.commands.proofs.HeaderOnce.{does_header}
use Rattle.commands.proofs.LinesDone.{does_long, does_skip, refused_line, skipped_line}
use Rattle.commands.proofs.LinesRead.{read_line}
use Rattle.commands.proofs.reading.read_header.Goals as goal

pub returns-then-line-gt-LONGEST_LINE-clause-answers : goal.returns-then-line-gt-LONGEST_LINE-clause-answers
returns-then-line-gt-LONGEST_LINE-clause-answers g c = λ command tally.
    refused_line command (Begun c.args.header) c.args.line.now c.args.number _ _ tally LineTooLong c.refuse_line.result
    _ _ (does_long command (script.Begun c.args.header) c.args.line.now c.if-line-gt-LONGEST_LINE.true)
    c.refuse_line.ensures

pub returns-then-is_skipped-clause-answers : goal.returns-then-is_skipped-clause-answers
returns-then-is_skipped-clause-answers g c = λ command tally.
    skipped_line command (Begun c.args.header) c.args.line.now c.args.number _ _ tally tt
    (does_skip command (script.Begun c.args.header) c.args.line.now c.if-line-gt-LONGEST_LINE.false
    (sym c.is_skipped.ensures ∙ c.if-is_skipped.true))

pub returns-in-Ok-clause-answers : goal.returns-in-Ok-clause-answers
returns-in-Ok-clause-answers g c = λ command tally.
    read_line command c.args.header c.in-Ok.said c.args.line.now c.args.number _ _ tally c.if-line-gt-LONGEST_LINE.false
    (sym c.is_skipped.ensures ∙ c.if-is_skipped.false) c.in-Ok.ensures.said c.in-Ok.ensures.accepted

pub returns-in-Err-Line-clause-answers : goal.returns-in-Err-Line-clause-answers
returns-in-Err-Line-clause-answers g c = λ command tally.
    refused_line command (Begun c.args.header) c.args.line.now c.args.number _ _ tally c.in-Err-Line.refusal
    c.refuse_line-in-Err-Line.result _ _ (does_header command c.args.header c.args.line.now
    (header.Refused c.in-Err-Line.refusal) c.if-line-gt-LONGEST_LINE.false
    (sym c.is_skipped.ensures ∙ c.if-is_skipped.false)
    (subst (Refuses c.args.header c.args.line.now) c.in-Err-Line.field-0-is c.in-Err-Line.ensures.refused))
    (subst (λ f. Told c.refuse_line-in-Err-Line.result (g.K.Sink.written c.args.sink.now)
    (g.K.Sink.written c.refuse_line-in-Err-Line.new.sink) (g.K.Sink.faults c.args.sink.now)
    (g.K.Sink.faults c.refuse_line-in-Err-Line.new.sink) (line_refused c.args.number f)) c.in-Err-Line.refusal-is
    c.refuse_line-in-Err-Line.ensures)
