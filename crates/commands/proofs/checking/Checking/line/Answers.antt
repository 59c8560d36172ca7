use Rattle.std.proofs.Common.{sym, subst}
use Rattle.commands.specs.CheckLines.{ChecksLine}
use Rattle.commands.proofs.checking.Checking.line.Goals as goal

pub returns-in-Block : goal.returns-in-Block
returns-in-Block g c = subst (λ r. ChecksLine r c.args.line.now c.args.number c.collect.result
    (g.K.Sink.written c.args.sink.now) (g.K.Sink.written c.args.sink.now) (g.K.Sink.faults c.args.sink.now)
    (g.K.Sink.faults c.args.sink.now)) (sym c.in-Block.is)
    (c.collect.ensures c.args.number (g.K.Sink.written c.args.sink.now) (g.K.Sink.faults c.args.sink.now))
