use Rattle.std.proofs.Common.{◌*◌, ◌-◌, ◌^◌, ◌∙◌, ap, get_or}
use Rattle.residue.specs.Products.{sum_below}
use Rattle.parts.specs.Keys.{MonomialValue}
use Rattle.parts.proofs.PackedSums.{packed_is}
use Rattle.parts.proofs.terms.Monomial.packed.Goals as goal

pub returns : goal.returns
returns c = c.packed.ensures
    ∙ packed_is c.self.inside.packed.powers c.are_powers.ensures.eight
    ∙ ap (λ (v : MonomialValue). sum_below 8 (λ i. get_or v.powers i 0 * 2 ^ (12 * (7 - i)))) c.self.view_is
