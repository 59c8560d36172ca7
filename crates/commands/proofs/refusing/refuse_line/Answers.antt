use Rattle.std.proofs.Common.{◌∙◌, subst}
use Rattle.commands.specs.Lines.{Refuses}
use Rattle.commands.proofs.Told.{not_told, line_text}
use Rattle.commands.proofs.refusing.refuse_line.Goals as goal

pub returns-in-Ok : goal.returns-in-Ok
returns-in-Ok g c = subst (Refuses c.tell.result (g.K.Sink.written c.args.sink.now)
    (g.K.Sink.written c.tell.new.sink) (g.K.Sink.faults c.args.sink.now) (g.K.Sink.faults c.tell.new.sink))
    (c.as_bytes.ensures.value ∙ c.in-Ok.ensures.ok ∙ line_text c.args.number c.args.refusal) c.tell.ensures

pub returns-in-Err : goal.returns-in-Err
returns-in-Err g c = not_told _ _ _
