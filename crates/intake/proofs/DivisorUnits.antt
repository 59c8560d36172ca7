-- A divisor whose constant term is a unit is never refused.
use Rattle.std.proofs.Common.{◌≡◌, ℕ, List, ◌∙◌, sym, ap, subst}
use Rattle.ps_model.specs.Bounds.{IsUnit}
use Rattle.ps_model.specs.Notation.{constant_term}
use Rattle.ps_model.specs.SeriesRing.{Poly}
use Rattle.parts.specs.Rings.{modulus_of}
use Rattle.parts.specs.Series.{series}
use Rattle.parts.specs.declared.rings.Ring.{Ring}
use Rattle.units.proofs.Constants.{no_unit}
use Rattle.series_graph.specs.Calls.{IsWithoutInverse}
use Rattle.series_graph.specs.Formula.{place_of, Formula}
use Rattle.series_graph.specs.GraphValue.{GraphValue}
use Rattle.series_graph.specs.Meaning.{Means}
use Rattle.series_graph.specs.declared.node.NodeId.{NodeId}
use Rattle.intake.specs.Slots.{AddsEach, IsUnitAt}
use Rattle.intake.proofs.SlotsAdded.{meanings_then}

pub never_refused : (formulas : List Formula) (old mid : GraphValue) (slots : List NodeId) (b : NodeId) (value gcd : ℕ)
    → AddsEach formulas old mid slots → IsUnitAt old.ring old.formulas b → IsWithoutInverse mid b value gcd
    → (p : Poly (series mid.ring)) × Means (series mid.ring) 0 mid.formulas (place_of b) p × (value ≡ constant_term p)
    → ⊥
never_refused formulas old mid slots b value gcd each unit without (p, means, at) =
    no_unit (modulus_of mid.ring) value gcd without.above without.divisor
    (subst (λ n. IsUnit (modulus_of mid.ring) n) (sym (at ∙ ap constant_term means.2))
    ((subst (λ (R : Ring). IsUnitAt R old.formulas b) (sym each.ring_is) unit) means.0
    (meanings_then (series mid.ring) 0 formulas old mid slots each means.0 means.1)))
