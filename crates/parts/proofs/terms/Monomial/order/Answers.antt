use Rattle.std.proofs.Common.{◌∙◌, sym}
use Rattle.std.specs.Cmp.Lexicographic.{slice_cmp}
use Rattle.std.specs.Ordering.{nat_cmp}
use Rattle.ps_model.specs.Keys.{key_compare}
use Rattle.ps_model.proofs.Maps.{numbers_of}
use Rattle.parts.specs.Terms.{key_of}
use Rattle.parts.proofs.terms.Monomial.order.Goals as goal

pub returns : goal.returns
returns c = c.order.ensures
    ∙ (λ i. slice_cmp nat_cmp (sym (numbers_of 8 c.other.inside.packed.powers c.are_powers-2.ensures.eight) i)
    (sym (numbers_of 8 c.self.inside.packed.powers c.are_powers.ensures.eight) i))
    ∙ (λ i. key_compare 8 (key_of (c.self.view_is i)) (key_of (c.other.view_is i)))
