use Rattle.std.proofs.Common.{◌-◌, length}
use Rattle.printer.proofs.ReadPrecisions.{DigitsTold}
use Rattle.printer.proofs.read_precision.told_digits.Given as goal

abbrev pub invariant-loop-next : goal.invariant-loop-next
invariant-loop-next l = DigitsTold l.bytes l.value l.next

abbrev pub decreases-loop-next : goal.decreases-loop-next
decreases-loop-next l = length l.bytes - l.next
