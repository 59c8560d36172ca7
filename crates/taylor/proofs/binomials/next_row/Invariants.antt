use Rattle.std.proofs.Common.{length}
use Rattle.residue.specs.Residues.{number_of}
use Rattle.taylor.proofs.Triangles.{IsStart}
use Rattle.taylor.proofs.binomials.next_row.Given as goal

abbrev pub invariant-loop-i : goal.invariant-loop-i
invariant-loop-i l = IsStart (number_of l.modulus) (length l.row) l.i l.next.items
