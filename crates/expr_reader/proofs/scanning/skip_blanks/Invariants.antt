use Rattle.std.proofs.Common.{◌≡◌, ℕ, ◌-◌, ◌≤◌, length, drop, List}
use Rattle.ps_model.specs.Tokens.{tokens}
use Rattle.expr_reader.proofs.scanning.skip_blanks.Given as goal

abbrev pub invariant-loop-place : goal.invariant-loop-place
invariant-loop-place l = record {
  within : l.place ≤ length l.text;
  same : (names : List (List ℕ)) → tokens names l.at 0 (drop l.at l.text) ≡ tokens names l.place 0
      (drop l.place l.text);
}

abbrev pub decreases-loop-place : goal.decreases-loop-place
decreases-loop-place l = length l.initial.text - l.place
