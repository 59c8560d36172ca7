use Rattle.printer.proofs.ReadBuilt.{IsBuilt}
use Rattle.printer.proofs.read_polynomials.polynomial.Given as goal

abbrev pub invariant-loop-i : goal.invariant-loop-i
invariant-loop-i l = IsBuilt l.sorted.items l.i l.polynomial
