-- The slots of a product or of a quotient: how many they are, and what they mean.
use Rattle.std.proofs.Common.{◌≡◌, ℕ, suc, ◌+◌, ◌-◌, ◌<◌, Bool, true, false, List, [], ◌∷◌, length, get_or, sym, ◌∙◌}
use Rattle.std.proofs.Common.{ap, subst, arith}
use Rattle.std.proofs.lemmas.List.{length-map}
use Rattle.ps_model.specs.Bounds.{HasNoPowerAbove}
use Rattle.ps_model.specs.Notation.{product}
use Rattle.ps_model.specs.SeriesRing.{SeriesRing, ring, Poly}
use Rattle.ps_model.proofs.PowerBounds.{power_bound-product}
use Rattle.series_graph.specs.Formula.{Dot, Quotient}
use Rattle.series_graph.specs.GraphValue.{GraphValue}
use Rattle.series_graph.specs.declared.node.NodeId.{NodeId}
use Rattle.intake.specs.Slots.{Mean, Multiplies, pairs_to, products_of, quotients_of, AddsEach, AddsSlots}
use Rattle.intake.proofs.Built.{MeansMultiplied}
use Rattle.intake.proofs.SlotsAdded.{each_to-length, slots_of_each, products_mean, quotients_mean}

pub alone : (b : List NodeId) (d : NodeId) → length b ≡ 1 → b ≡ get_or b 0 d ∷ []
alone [] d long = absurd (omega arith)
alone (x ∷ []) d long = ap (λ y. y ∷ []) (same x)
  where
    same : (x : NodeId) → x ≡ get_or (x ∷ []) 0 d
    same x = cc
alone (x ∷ y ∷ b) d long = absurd (omega arith)

module _ (a b : List NodeId) (old new : GraphValue) (ids : List NodeId) (some_a : 0 < length a) where
  module _ (d : NodeId) (single : length b ≡ 1) (each : AddsEach (quotients_of a (get_or b 0 d)) old new ids) where
    pub divided_slots : AddsSlots (length a + length b - 1) (length a + length b - 1) old new ids
    divided_slots = slots_of_each (length a + length b - 1) (quotients_of a (get_or b 0 d)) old new ids
        (length-map a (λ (x : NodeId). Quotient x (get_or b 0 d)) ∙ as_many (length a) (length b) single) each
      where
        as_many : (n k : ℕ) → k ≡ 1 → n ≡ n + k - 1
        as_many n k one = omega arith

    pub divided_mean : (divide : Bool) → divide ≡ true → MeansMultiplied divide old new a b ids
    divided_mean divide is S D u v w bound low mean_a mean_b multiplies =
        let step : Multiplies S D true u v w = subst (λ (t : Bool). Multiplies S D t u v w) is multiplies in
        quotients_mean S D a (get_or b 0 d) old new ids u v w (length a - 1) each (omega (arith, some_a)) bound
        step.0 step.1 step.2 mean_a
        (subst (λ (l : List NodeId). Mean S D old.formulas l v) (alone b d single) mean_b)

  module _ (some_b : 0 < length b) (each : AddsEach (products_of a b (length a + length b - 1)) old new ids) where
    pub multiplied_slots : AddsSlots (length a + length b - 1) (length a + length b - 1) old new ids
    multiplied_slots = slots_of_each (length a + length b - 1) (products_of a b (length a + length b - 1)) old new ids
        (each_to-length (length a + length b - 1) (λ j. Dot (pairs_to a b j (suc j)))) each

    pub multiplied_mean : (divide : Bool) → divide ≡ false → MeansMultiplied divide old new a b ids
    multiplied_mean divide is S D u v w bound low mean_a mean_b multiplies =
        let step : Multiplies S D false u v w = subst (λ (t : Bool). Multiplies S D t u v w) is multiplies in
        subst (λ (p : Poly S). Mean S D new.formulas ids p) (sym step)
        (products_mean S D a b old new ids u v (length a + length b - 1) ((length a - 1) + (length b - 1)) each
        (omega (arith, some_a, some_b)) (power_bound-product (ring S) (length a - 1) (length b - 1) u v bound low)
        mean_a mean_b)
