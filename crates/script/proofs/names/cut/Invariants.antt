use Rattle.std.proofs.Common.{◌≡◌, ◌≤◌, ◌++◌, length, take, drop}
use Rattle.script.specs.Header.{name_in, behind_colon}
use Rattle.script.proofs.names.cut.Given as goal

-- no colon stands before place i
abbrev pub invariant-loop-i : goal.invariant-loop-i
invariant-loop-i l = record {
  within : l.i ≤ length l.word;
  name : name_in l.word ≡ take l.i l.word ++ name_in (drop l.i l.word);
  behind : behind_colon l.word ≡ behind_colon (drop l.i l.word);
}
