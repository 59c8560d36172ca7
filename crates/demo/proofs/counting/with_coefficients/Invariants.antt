use Rattle.std.proofs.Common.{◌≡◌, ◌+◌, ◌%◌, ◌<◌, take}
use Rattle.residue.specs.Residues.{number_of}
use Rattle.demo.proofs.CountSteps.{coefficients}
use Rattle.demo.proofs.counting.with_coefficients.Given as goal

abbrev pub invariant-loop-term : goal.invariant-loop-term
invariant-loop-term l =
    (l.sum ≡ (l.start + coefficients (take l.term-index l.terms)) % number_of l.modulus)
    × (l.sum < number_of l.modulus)
