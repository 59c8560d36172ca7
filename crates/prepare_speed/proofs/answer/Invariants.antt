use Rattle.std.proofs.Common.{◌≡◌, ◌+◌, ◌*◌}
use Rattle.prepare.specs.PrepValue.{degrees_of}
use Rattle.prepare_speed.proofs.answer.Given as goal

abbrev pub invariant-loop-i : goal.invariant-loop-i
invariant-loop-i l = record {
  ring : l.last.ring ≡ l.fn.work.ring;
  degrees : degrees_of l.last ≡ l.fn.work.degree + 1;
  steps : l.tally ≡ l.i * (l.fn.work.degree + 1);
}
