use Rattle.parts.proofs.Steps.{IsAdded}
use Rattle.parts.proofs.counting.add_variable.Given as goal

abbrev pub invariant-loop-d : goal.invariant-loop-d
invariant-loop-d l = IsAdded l.fn.weight l.fn.degree l.fn.counts l.counts l.d
