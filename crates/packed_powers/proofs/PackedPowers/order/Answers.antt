use Rattle.std.proofs.Common.{◌∙◌}
use Rattle.std.specs.Ordering.{nat_cmp}
use Rattle.std.specs.Cmp.Lexicographic.{slice_cmp}
use Rattle.packed_powers.proofs.Order.{unpacked_cmp}
use Rattle.packed_powers.proofs.PackedPowers.order.Goals as goal

pub returns : goal.returns
returns c = c.cmp.ensures
    ∙ unpacked_cmp c.other.inside.packed c.self.inside.packed c.other.invariant c.self.invariant
    ∙ (λ i. slice_cmp nat_cmp (c.other.view_is i).powers (c.self.view_is i).powers)
