use Rattle.std.proofs.Common.{◌≡◌, ◌≤◌, length, take}
use Rattle.ps_model.specs.Tokens.{without_blanks}
use Rattle.script.proofs.words.up_to_last.Given as goal

abbrev pub invariant-loop-end : goal.invariant-loop-end
invariant-loop-end l = record {
  within : l.end ≤ length l.text;
  same : without_blanks (take l.end l.text) ≡ without_blanks l.text;
}

abbrev pub decreases-loop-end : goal.decreases-loop-end
decreases-loop-end l = l.end
