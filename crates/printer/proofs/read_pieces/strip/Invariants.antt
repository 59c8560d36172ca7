use Rattle.printer.proofs.ReadCuts.{IsSameTo}
use Rattle.printer.proofs.read_pieces.strip.Given as goal

abbrev pub invariant-loop-i : goal.invariant-loop-i
invariant-loop-i l = IsSameTo l.text l.bytes l.i
