use Rattle.std.proofs.Common.{◌∙◌, sym, ap}
use Rattle.packed_powers.specs.Packed.{PowersValue, packed_number}
use Rattle.packed_powers.specs.PackedLaws.{packed_unpacked}
use Rattle.packed_powers.proofs.PackedPowers.packed.Goals as goal

pub returns : goal.returns
returns c = sym (packed_unpacked c.self.inside.packed c.self.invariant)
    ∙ ap (λ (v : PowersValue). packed_number v.powers) c.self.view_is
