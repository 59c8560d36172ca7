use Rattle.std.proofs.Common.{◌≡◌}
use Rattle.series_tests.proofs.quotients.product_part.Given as goal

abbrev pub invariant-loop-s : goal.invariant-loop-s
invariant-loop-s l = record { ring : l.sum.ring ≡ l.fn.ring; degree : l.sum.degree ≡ l.fn.r }
