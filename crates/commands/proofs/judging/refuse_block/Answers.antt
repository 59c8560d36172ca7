use Rattle.std.proofs.Common.{sym, subst}
use Rattle.parts.specs.Rings.{weights_of}
use Rattle.commands.specs.Checks.{Ends, IsTooLong}
use Rattle.commands.specs.Judged.{RefusesBlock, behind_of}
use Rattle.commands.proofs.CheckSteps.{refuses_before, refuses_behind, refuses_none}
use Rattle.commands.proofs.judging.refuse_block.Goals as goal

pub returns-in_default : goal.returns-in_default
returns-in_default g c = refuses_none (weights_of c.args.ring) c.args.error c.args.first c.args.next
    (behind_of c.args.behind) _ _ c.in_default.ensures

pub returns-then-line-next : goal.returns-then-line-next
returns-then-line-next g c = refuses_before (weights_of c.args.ring) c.args.error c.args.first c.args.next
    (behind_of c.args.behind) c.in-Some.line c.in-Some.refusal c.in-Some.ensures c.refuse_line.result _ _ _ _
    c.if-line-next.true c.refuse_line.ensures

pub returns-in-End : goal.returns-in-End
returns-in-End g c = subst (λ b. RefusesBlock (weights_of c.args.ring) c.args.error c.args.first c.args.next
    (behind_of b)
    c.refuse_end.result (g.K.Sink.written c.args.sink.now) (g.K.Sink.written c.refuse_end.new.sink)
    (g.K.Sink.faults c.args.sink.now) (g.K.Sink.faults c.refuse_end.new.sink)) (sym c.in-End.is)
    (refuses_behind (weights_of c.args.ring) c.args.error c.args.first c.args.next Ends c.in-Some.line c.in-Some.refusal
    c.in-Some.ensures c.refuse_end.result _ _ _ _ c.if-line-next.false c.requires.behind c.refuse_end.ensures)

pub returns-in-TooLong : goal.returns-in-TooLong
returns-in-TooLong g c = subst (λ b. RefusesBlock (weights_of c.args.ring) c.args.error c.args.first c.args.next
    (behind_of b) c.refuse_line-in-TooLong.result (g.K.Sink.written c.args.sink.now)
    (g.K.Sink.written c.refuse_line-in-TooLong.new.sink) (g.K.Sink.faults c.args.sink.now)
    (g.K.Sink.faults c.refuse_line-in-TooLong.new.sink)) (sym c.in-TooLong.is)
    (refuses_behind (weights_of c.args.ring) c.args.error c.args.first c.args.next IsTooLong c.in-Some.line
    c.in-Some.refusal c.in-Some.ensures c.refuse_line-in-TooLong.result _ _ _ _ c.if-line-next.false c.requires.behind
    c.refuse_line-in-TooLong.ensures)
