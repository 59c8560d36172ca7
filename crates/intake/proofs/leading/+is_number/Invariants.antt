use Rattle.intake.proofs.NumberParts.{SumNumber, ProductNumber}
use Rattle.intake.proofs.leading.+is_number.Given as goal

abbrev pub decreases-is_number : goal.decreases-is_number
decreases-is_number l = goal.size-is_number l

abbrev pub invariant-loop-summand : goal.invariant-loop-summand
invariant-loop-summand l = SumNumber l.expr l.summand-items l.summand-index

abbrev pub invariant-loop-factor : goal.invariant-loop-factor
invariant-loop-factor l = ProductNumber l.expr l.factor-items l.factor-index
