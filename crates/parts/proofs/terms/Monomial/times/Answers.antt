use Rattle.std.proofs.Common.{◌∙◌}
use Rattle.ps_model.specs.Keys.{add_keys}
use Rattle.parts.specs.Terms.{key_of}
use Rattle.parts.proofs.Rows.{sums_are}
use Rattle.parts.proofs.terms.Monomial.times.Goals as goal

pub returns : goal.returns
returns c =
    (λ i. record {
      powers = sums_are 8 c.times-packed.result.powers c.self.inside.packed.powers c.other.inside.packed.powers
          c.are_powers.ensures.eight c.times-packed.ensures i;
      y = 0;
    })
    ∙ (λ i. add_keys 8 (key_of (c.self.view_is i)) (key_of (c.other.view_is i)))
