use Rattle.std.proofs.Common.{arith}
use Rattle.packed_powers.proofs.Digits.{packed_next, all_fit, all_packed}
use Rattle.packed_powers.proofs.PackedPowers.of.Goals as goal

pub loop-power-preserved : goal.loop-power-preserved
loop-power-preserved c = packed_next c.args.powers (record { eight = omega arith; low = c.requires })
    c.loop-power.power-index c.loop-power.packed c.from.result (omega arith) c.loop-power.invariant c.from.ensures

pub invariant_of-result : goal.invariant_of-result
invariant_of-result c = all_fit c.args.powers (record { eight = omega arith; low = c.requires })
    c.loop-power.power-index c.loop-power.packed (omega arith) c.loop-power.invariant

pub returns : goal.returns
returns c = all_packed c.args.powers (record { eight = omega arith; low = c.requires })
    c.loop-power.power-index c.loop-power.packed (omega arith) c.loop-power.invariant
