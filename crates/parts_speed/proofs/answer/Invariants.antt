use Rattle.std.proofs.Common.{◌≡◌, ◌+◌, ◌*◌}
use Rattle.parts.specs.PartValue.{IsPartOf}
use Rattle.parts_speed.proofs.answer.Given as goal

abbrev pub invariant-loop-i : goal.invariant-loop-i
invariant-loop-i l = record {
  degree : l.total.degree ≡ l.fn.work.degree * l.fn.work.first + l.fn.work.degree * l.fn.work.second;
  ring : l.total.ring ≡ l.fn.work.ring;
}

abbrev pub invariant-loop-j : goal.invariant-loop-j
invariant-loop-j l = record {
  degree : l.last.degree ≡ l.fn.work.degree * l.fn.work.first + l.fn.work.degree * l.fn.work.second;
  part : IsPartOf l.fn.work.ring l.last;
}
