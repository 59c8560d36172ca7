use Rattle.std.specs.List.{All}
use Rattle.ps_model.specs.AcceptedJob.{IsAcceptedRoot}
use Rattle.residue.specs.Residues.{number_of}
use Rattle.pipe_tests.proofs.jobs.roots_of.Given as goal

abbrev pub invariant-loop-value : goal.invariant-loop-value
invariant-loop-value l = record { accepted : All (IsAcceptedRoot (number_of l.modulus)) l.roots.items }
