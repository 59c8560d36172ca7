use Rattle.std.proofs.Common.{◌≡◌, ◌+◌, length}
use Rattle.prepare_speed.specs.Prepared.{ArePowers}
use Rattle.prepare_speed.proofs.rows.powers_of.Given as goal

abbrev pub invariant-loop-k : goal.invariant-loop-k
invariant-loop-k l = record {
  count : length l.powers.items ≡ l.k + 1;
  powers : ArePowers l.fn.ring l.powers.items;
}
