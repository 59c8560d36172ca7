use Rattle.std.proofs.Common.{map}
use Rattle.residue.specs.Residues.{number_of}
use Rattle.taylor.specs.Binomials.{IsBinomialRow, AreBinomials}
use Rattle.taylor.proofs.binomials.Binomials.new.Given as goal

abbrev pub invariant-loop-j : goal.invariant-loop-j
invariant-loop-j l = record {
  rows : AreBinomials (number_of l.modulus) l._j (map (λ r. r.items) l.rows.items);
  row : IsBinomialRow (number_of l.modulus) l._j l.row.items;
}
