use Rattle.std.proofs.Common.{◌≡◌}
use Rattle.prepare_speed.proofs.rows.dense_part.Given as goal

abbrev pub invariant-loop-i : goal.invariant-loop-i
invariant-loop-i l = record { ring : l.sum.ring ≡ l.fn.powers.ring; degree : l.sum.degree ≡ l.fn.degree }
