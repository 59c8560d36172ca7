use Rattle.std.proofs.Common.{◌≡◌, ◌+◌, ◌≤◌, length}
use Rattle.std.specs.List.{All}
use Rattle.ps_model.specs.AcceptedJob.{IsAcceptedRoot}
use Rattle.residue.specs.Residues.{number_of}
use Rattle.script.specs.Header.{roots_from}
use Rattle.script.specs.Words.{words}
use Rattle.script.proofs.RootLemmas.{after}
use Rattle.script.proofs.roots.roots_of.Given as goal

abbrev pub invariant-loop-word : goal.invariant-loop-word
invariant-loop-word l = record {
  few : l.place + length l.rest ≤ length l.text;
  count : length l.roots.items ≡ l.place;
  accepted : All (IsAcceptedRoot (number_of l.modulus)) l.roots.items;
  same : roots_from (number_of l.modulus) 1 (words l.text)
      ≡ after l.roots.items (roots_from (number_of l.modulus) (l.place + 1) (words l.rest));
}

abbrev pub decreases-loop-word : goal.decreases-loop-word
decreases-loop-word l = length l.rest
