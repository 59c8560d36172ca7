use Rattle.std.proofs.Common.{◌∙◌, nat_eq}
use Rattle.std.specs.Cmp.Lexicographic.{pointwise}
use Rattle.packed_powers.proofs.Order.{unpacked_eq}
use Rattle.packed_powers.proofs.PackedPowersPartialEq.eq.Goals as goal

pub returns : goal.returns
returns c = unpacked_eq c.self.inside.packed c.other.inside.packed c.self.invariant c.other.invariant
    ∙ (λ i. pointwise nat_eq (c.self.view_is i).powers (c.other.view_is i).powers)
