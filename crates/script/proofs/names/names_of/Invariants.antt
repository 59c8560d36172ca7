use Rattle.std.proofs.Common.{◌≡◌, ◌+◌, ◌<◌, ◌≤◌, [], length, take}
use Rattle.script.specs.Header.{names_from}
use Rattle.script.specs.Words.{words}
use Rattle.script.proofs.NamesRead.{AreSoFar}
use Rattle.script.proofs.names.names_of.Given as goal

abbrev pub invariant-loop-word : goal.invariant-loop-word
invariant-loop-word l = record {
  few : length l.names ≤ 8;
  so_far : AreSoFar (length l.names) l.weights;
  same : names_from [] [] 1 (words l.text)
      ≡ names_from l.names (take (length l.names) l.weights) (length l.names + 1) (words l.rest);
  begun : length l.names ≡ 0 → words l.rest ≡ words l.text;
  some : 0 < length l.names → words l.text ≡ [] → ⊥;
}

abbrev pub decreases-loop-word : goal.decreases-loop-word
decreases-loop-word l = length l.rest
