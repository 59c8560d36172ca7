use Rattle.std.proofs.Common.{◌∙◌, sym, subst, refl, Err}
use Rattle.script.specs.Checking.{Begun}
use Rattle.script.specs.Header as header
use Rattle.script.specs.Refusals.{line_refused}
use Rattle.script.specs.Sayings.{Refuses}
use Rattle.script.specs.declared.refusal.Refusal.TheVariants.{LineTooLong}
use Rattle.commands.specs.Lines.{Refuses as Told}
use Rattle.commands.specs.declared.checking.Checking.TheVariants as checking
use Rattle.commands.proofs.CheckLinesRead.{line_long, line_content, line_refuses}
use Rattle.commands.proofs.checking.read_header.Goals as goal

pub returns-then-line-gt-LONGEST_LINE : goal.returns-then-line-gt-LONGEST_LINE
returns-then-line-gt-LONGEST_LINE g c = line_refuses (checking.Begun c.args.header) c.args.line.now c.args.number
    LineTooLong c.refuse_line.result _ _ _ _
    (line_long (Begun c.args.header) c.args.number c.args.line.now c.if-line-gt-LONGEST_LINE.true) c.refuse_line.ensures

pub returns-in-Err-Line : goal.returns-in-Err-Line
returns-in-Err-Line g c = line_refuses (checking.Begun c.args.header) c.args.line.now c.args.number
    c.in-Err-Line.refusal c.refuse_line-in-Err-Line.result _ _ _ _
    (line_content (Begun c.args.header) c.args.number c.args.line.now c.if-line-gt-LONGEST_LINE.false
    (sym c.is_skipped.ensures ∙ c.if-is_skipped.false) (Err c.in-Err-Line.refusal) (
      header.Refused c.in-Err-Line.refusal,
      subst (Refuses c.args.header c.args.line.now) c.in-Err-Line.field-0-is c.in-Err-Line.ensures.refused,
      refl,
    ))
    (subst (λ f. Told c.refuse_line-in-Err-Line.result (g.K.Sink.written c.args.sink.now)
    (g.K.Sink.written c.refuse_line-in-Err-Line.new.sink) (g.K.Sink.faults c.args.sink.now)
    (g.K.Sink.faults c.refuse_line-in-Err-Line.new.sink) (line_refused c.args.number f)) c.in-Err-Line.refusal-is
    c.refuse_line-in-Err-Line.ensures)
