use Rattle.std.proofs.Common.{sym, subst, refl}
use Rattle.script.specs.Checking.{Begun, Has}
use Rattle.commands.specs.Checks.{IsTold, IsTooLong}
use Rattle.commands.specs.CheckLines.{state_in, IsGood}
use Rattle.commands.specs.Statuses.{status_of}
use Rattle.commands.specs.Telling.{Tells}
use Rattle.commands.proofs.CheckTold.{state_told}
use Rattle.commands.proofs.checking.Checking.too_long.Goals as goal

pub returns-in-Begun : goal.returns-in-Begun
returns-in-Begun g c = λ tally. subst (λ r. Tells (IsTold (state_in r) c.args.next IsTooLong) (status_of
    c.refuse_line.result)
    (g.K.Sink.written c.args.sink.now) (g.K.Sink.written c.refuse_line.new.sink) (g.K.Sink.faults c.args.sink.now)
    (g.K.Sink.faults c.refuse_line.new.sink) tally tally) (sym c.in-Begun.is)
    (state_told (Begun c.in-Begun.field-0) tt c.args.next IsTooLong _ (refl, refl, refl) c.refuse_line.result _ _ _ _
    tally
    c.refuse_line.ensures)

pub returns-in-Due : goal.returns-in-Due
returns-in-Due g c = λ tally. subst (λ r. Tells (IsTold (state_in r) c.args.next IsTooLong)
    (status_of c.refuse_line-in-Due.result) (g.K.Sink.written c.args.sink.now)
    (g.K.Sink.written c.refuse_line-in-Due.new.sink) (g.K.Sink.faults c.args.sink.now)
    (g.K.Sink.faults c.refuse_line-in-Due.new.sink) tally tally) (sym c.in-Due.is)
    (state_told (Has c.in-Due.field-0.names c.in-Due.field-0.job)
    (subst (λ r. IsGood (state_in r)) c.in-Due.is c.requires.good) c.args.next IsTooLong _ (refl, refl, refl)
    c.refuse_line-in-Due.result _ _ _ _ tally c.refuse_line-in-Due.ensures)

pub returns : goal.returns
returns g c = λ tally. subst (λ r. Tells (IsTold (state_in r) c.args.next IsTooLong) (status_of c.too_long.result)
    (g.K.Sink.written c.args.sink.now) (g.K.Sink.written c.too_long.new.sink) (g.K.Sink.faults c.args.sink.now)
    (g.K.Sink.faults c.too_long.new.sink) tally tally) (sym c.in-Block.is) (c.too_long.ensures tally)
