use Rattle.std.proofs.Common.{arith}
use Rattle.ports.proofs.LineLemmas.{text-other, text-last}
use Rattle.ports.proofs.lines.text_end.Goals as goal
use Rattle.ports.proofs.lines.text_end.Goals.{else-start-end-via-then-start-end+else-bytes-end-eq-RETURN}
use Rattle.ports.proofs.lines.text_end.Goals.{else-start-end-via-else-start-end}

pub returns-then-bytes-end-eq-RETURN-clause-text :
    goal.returns-then-bytes-end-eq-RETURN-clause-text
returns-then-bytes-end-eq-RETURN-clause-text c =
    text-last c.args.bytes.now c.args.start c.args.end (omega arith) (omega arith) c.if-bytes-end-eq-RETURN.true

pub returns-else-start-end-clause-text : goal.returns-else-start-end-clause-text
returns-else-start-end-clause-text c =
    text-other c.args.bytes.now c.args.start c.args.end (omega arith) (omega arith) (λ below.
    elim c.else-start-end.branch [
      | else-start-end-via-then-start-end+else-bytes-end-eq-RETURN w ↦ w.if-bytes-end-eq-RETURN.false
      | else-start-end-via-else-start-end w ↦ absurd (omega arith)
    ])
