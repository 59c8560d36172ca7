use Rattle.std.proofs.Common.{◌≡◌, ◌+◌, ◌-◌, ◌*◌, ◌≤◌, Bool, List, length}
use Rattle.ps_model.specs.declared.expr.Summand.{Summand}
use Rattle.grammar.specs.Machine.{Frame, start, operand, fresh, run}
use Rattle.grammar.specs.Ahead.{all}
use Rattle.expr_reader.specs.Reading.{left}
use Rattle.expr_reader.proofs.parsing.+reading.Given as goal

abbrev pub decreases-base : goal.decreases-base
decreases-base l = (64 - l.depth) * 4

abbrev pub decreases-power : goal.decreases-power
decreases-power l = (64 - l.depth) * 4 + 1

abbrev pub decreases-term : goal.decreases-term
decreases-term l = (64 - l.depth) * 4 + 2

abbrev pub decreases-expression : goal.decreases-expression
decreases-expression l = (64 - l.depth) * 4 + 3

abbrev pub invariant-expression-loop-summands : goal.invariant-expression-loop-summands
invariant-expression-loop-summands l = record {
  fewer : left l.reader ≤ left l.fn.reader;
  moves : (outer : List Frame) → length outer ≡ l.depth → run (start outer) (all l.fn.reader) ≡ run
      (operand (fresh l.summands l.minus) outer) (all l.reader);
}

abbrev pub decreases-expression-loop-summands : goal.decreases-expression-loop-summands
decreases-expression-loop-summands l = left l.reader

abbrev pub invariant-term-loop-factors : goal.invariant-term-loop-factors
invariant-term-loop-factors l = record {
  fewer : left l.reader ≤ left l.fn.reader;
  moves : (ss : List Summand) (minus : Bool) (outer : List Frame) → length outer ≡ l.depth →
      run (operand (fresh ss minus) outer) (all l.fn.reader) ≡ run
      (operand (record { summands = ss; minus = minus; factors = l.factors; divide = l.divide }) outer)
      (all l.reader);
}

abbrev pub decreases-term-loop-factors : goal.decreases-term-loop-factors
decreases-term-loop-factors l = left l.reader
