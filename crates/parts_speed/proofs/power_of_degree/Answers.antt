use Rattle.std.proofs.Common.{◌≡◌, sym, ◌∙◌, ap, subst, arith, All}
use Rattle.std.specs.FinMap.{entries, empty}
use Rattle.parts.specs.declared.rings.Ring.{Ring}
use Rattle.parts.specs.PartValue.{PartValue, IsEntryOf, IsPartOf}
use Rattle.parts.specs.Rings.{modulus_of, weights_of}
use Rattle.parts.proofs.Gained.{none_listed}
use Rattle.parts_speed.proofs.power_of_degree.Goals as goal

-- a part with no entry is one of any ring
zero_part : (ring : Ring) (p : PartValue) → p.map ≡ empty → IsPartOf ring p
zero_part ring p none = subst (All (IsEntryOf (modulus_of ring) (weights_of ring) p.degree))
    (sym (ap entries none ∙ none_listed)) (λ k d lt. absurd (omega arith))

pub returns-then-degree-weight-ne0-clause-part : goal.returns-then-degree-weight-ne0-clause-part
returns-then-degree-weight-ne0-clause-part c = zero_part c.args.ring c.zero.result c.zero.ensures.map
