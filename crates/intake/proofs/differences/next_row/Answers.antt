-- One more number of the row, and the last one.
use Rattle.std.proofs.Common.{◌∙◌, ap, get_or, arith}
use Rattle.intake.proofs.NumberRows.{next_number, pushed, number_here, number_below, row_finished}
use Rattle.intake.proofs.differences.next_row.Goals as goal

pub loop-number-preserved : goal.loop-number-preserved
loop-number-preserved c = record {
  length = omega (arith, c.in_ok-push.ensures.len);
  below = number_below c.args.row.now c.loop-number.number-index;
  small = c.requires.residues c.loop-number.number-index;
  numbers = λ p lt. ap (λ l. get_or l p 0) c.in_ok-push.ensures.items
      ∙ pushed c.loop-number.next.items c.add.result c.loop-number.number-index
      (next_number c.args.modulus.value c.args.constant c.args.row.now) (omega arith)
      c.loop-number.invariant.numbers (c.add.ensures
      ∙ number_here c.args.modulus.value c.args.constant c.loop-number.below c.mul-share.result
      c.loop-number.number-index c.args.row.now c.loop-number.invariant.below c.mul-share.ensures) p lt;
}

pub returns-clause-numbers : goal.returns-clause-numbers
returns-clause-numbers c = λ p. ap (λ l. get_or l p 0) c.in_ok-push-2.ensures.items
    ∙ row_finished c.args.modulus.value c.args.constant c.loop-number.below c.loop-number.number-index c.args.row.now
    c.loop-number.next.items (let two = c.args.modulus.low in omega arith) (omega arith)
    (omega arith) c.loop-number.invariant.below c.loop-number.invariant.small
    c.loop-number.invariant.numbers p
