use Rattle.std.proofs.Common.{sym, subst, refl}
use Rattle.script.specs.Checking.{Begun, Has}
use Rattle.script.specs.Refusals.{end_refused}
use Rattle.script.specs.declared.refusal.Refusal.TheVariants.{Expected}
use Rattle.commands.specs.Checks.{IsTold, Ends}
use Rattle.commands.specs.CheckLines.{state_in, IsGood}
use Rattle.commands.specs.Lines.{Refuses}
use Rattle.commands.specs.Statuses.{status_of}
use Rattle.commands.specs.Telling.{Tells}
use Rattle.commands.proofs.CheckTold.{state_told}
use Rattle.commands.proofs.checking.Checking.end.Goals as goal

pub returns-in-Begun : goal.returns-in-Begun
returns-in-Begun g c = subst (λ r. Tells (IsTold (state_in r) c.args.next Ends) (status_of c.refuse_end.result)
    (g.K.Sink.written c.args.sink.now) (g.K.Sink.written c.refuse_end.new.sink) (g.K.Sink.faults c.args.sink.now)
    (g.K.Sink.faults c.refuse_end.new.sink) c.args.tally.now c.args.tally.now) (sym c.in-Begun.is)
    (state_told (Begun c.in-Begun.header) tt c.args.next Ends _ (refl, refl, refl) c.refuse_end.result _ _ _ _
    c.args.tally.now
    (subst (λ k. Refuses c.refuse_end.result (g.K.Sink.written c.args.sink.now)
    (g.K.Sink.written c.refuse_end.new.sink) (g.K.Sink.faults c.args.sink.now) (g.K.Sink.faults c.refuse_end.new.sink)
    (end_refused (Expected k))) c.due.ensures.due c.refuse_end.ensures))

pub returns-in-Due : goal.returns-in-Due
returns-in-Due g c = subst (λ r. Tells (IsTold (state_in r) c.args.next Ends) (status_of c.refuse_end-in-Due.result)
    (g.K.Sink.written c.args.sink.now) (g.K.Sink.written c.refuse_end-in-Due.new.sink)
    (g.K.Sink.faults c.args.sink.now) (g.K.Sink.faults c.refuse_end-in-Due.new.sink) c.args.tally.now
    c.args.tally.now) (sym c.in-Due.is)
    (state_told (Has c.in-Due.field-0.names c.in-Due.field-0.job)
    (subst (λ r. IsGood (state_in r)) c.in-Due.is c.requires.ready.good) c.args.next Ends _ (refl, refl, refl)
    c.refuse_end-in-Due.result _ _ _ _ c.args.tally.now c.refuse_end-in-Due.ensures)
