use Rattle.std.proofs.Common.{subst}
use Rattle.packed_powers.specs.Packed.{PowersValue, ArePowers}
use Rattle.packed_powers.proofs.Digits.{unpacked-ArePowers}
use Rattle.packed_powers.proofs.PackedPowers.are_powers.Goals as goal

pub returns : goal.returns
returns c = subst (λ (v : PowersValue). ArePowers v.powers) c.self.view_is (unpacked-ArePowers c.self.inside.packed)
