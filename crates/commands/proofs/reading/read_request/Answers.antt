use Rattle.script.specs.declared.refusal.Refusal.TheVariants.{LineTooLong}
use Rattle.commands.specs.Readings.{state_in}
use Rattle.commands.proofs.LinesDone.{does_long}
use Rattle.commands.proofs.reading.read_request.Goals as goal

pub returns-then-line-gt-LONGEST_LINE : goal.returns-then-line-gt-LONGEST_LINE
returns-then-line-gt-LONGEST_LINE g c = record {
  ok = tt;
  err = λ r of reads. (
    LineTooLong,
    does_long c.args.command (state_in r) c.args.line.now
        c.if-line-gt-LONGEST_LINE.true,
    c.refuse_line.ensures,
  );
  faults = c.refuse_line.ensures.faults;
}
