use Rattle.std.proofs.Common.{◌≡◌, take}
use Rattle.packed_powers.specs.Packed.{packed_number}
use Rattle.packed_powers.proofs.PackedPowers.of.Given as goal

abbrev pub invariant-loop-power : goal.invariant-loop-power
invariant-loop-power l = l.packed ≡ packed_number (take l.power-index l.fn.powers)
