use Rattle.std.proofs.Common.{◌∙◌, ap, sym, Err}
use Rattle.script.specs.Checking.{Has, block_outcome}
use Rattle.script.specs.declared.refusal.Refusal.TheVariants.{LineTooLong}
use Rattle.commands.specs.declared.checking.Checking.TheVariants.{Due}
use Rattle.commands.proofs.CheckLinesRead.{line_long, line_content, line_refuses}
use Rattle.commands.proofs.checking.read_due.Goals as goal

pub returns-then-line-gt-LONGEST_LINE : goal.returns-then-line-gt-LONGEST_LINE
returns-then-line-gt-LONGEST_LINE g c = line_refuses (Due c.args.job) c.args.line.now c.args.number LineTooLong
    c.refuse_line.result _ _ _ _
    (line_long (Has c.args.job.names c.args.job.job) c.args.number c.args.line.now c.if-line-gt-LONGEST_LINE.true)
    c.refuse_line.ensures

pub returns-in-Err : goal.returns-in-Err
returns-in-Err g c = line_refuses (Due c.args.job) c.args.line.now c.args.number c.in-Err.refusal
    c.refuse_line-in-Err.result _ _ _ _
    (line_content (Has c.args.job.names c.args.job.job) c.args.number c.args.line.now c.if-line-gt-LONGEST_LINE.false
    (sym c.is_skipped.ensures ∙ c.if-is_skipped.false) (Err c.in-Err.refusal)
    (sym (ap (block_outcome c.args.job.names c.args.job.job c.args.number) c.in-Err.ensures)))
    c.refuse_line-in-Err.ensures
