use Rattle.std.proofs.Common.{◌≡◌, ◌+◌}
use Rattle.prepare.specs.PrepValue.{degrees_of}
use Rattle.series_tests.proofs.preparations.prepare_long.Given as goal

abbrev pub invariant-loop-r : goal.invariant-loop-r
invariant-loop-r l = record {
  ring : l.prep.ring ≡ l.fn.ring;
  width : l.prep.k + l.prep.q ≡ 2;
  degrees : degrees_of l.prep ≡ l.r;
  ticks : l.tally ≡ l.r;
}
