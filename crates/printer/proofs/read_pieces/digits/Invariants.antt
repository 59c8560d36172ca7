use Rattle.std.proofs.Common.{◌≡◌, ◌-◌, ◌≤◌, drop, length}
use Rattle.printer.specs.ReadForms.{digits_from}
use Rattle.printer.proofs.read_pieces.digits.Given as goal

abbrev pub invariant-loop-next : goal.invariant-loop-next
invariant-loop-next l = record {
  same : digits_from l.value (drop l.next l.bytes) ≡ digits_from 0 l.bytes;
  small : l.value ≤ l.limit;
  inside : l.next ≤ length l.bytes;
}

abbrev pub decreases-loop-next : goal.decreases-loop-next
decreases-loop-next l = length l.bytes - l.next
