use Rattle.std.proofs.Common.{◌≡◌, ◌+◌, ◌-◌, ◌≤◌, length, drop}
use Rattle.std.specs.Prelude.{take_while}
use Rattle.ps_model.specs.Names.{is_name_byte}
use Rattle.expr_reader.proofs.scanning.word_end.Given as goal

abbrev pub invariant-loop-next : goal.invariant-loop-next
invariant-loop-next l = record {
  within : l.next ≤ length l.text;
  same : l.next + length (take_while is_name_byte (drop l.next l.text)) ≡ l.from + length
      (take_while is_name_byte (drop l.from l.text));
}

abbrev pub decreases-loop-next : goal.decreases-loop-next
decreases-loop-next l = length l.initial.text - l.next
