-- The map of an answer by another name.
use Rattle.std.proofs.Common.{◌≡◌, ℕ, ◌∙◌}
use Rattle.std.specs.FinMap.{FinMap}
use Rattle.std.specs.Prelude.{Result, Ok, Err, IfOk}
use Rattle.ps_model.specs.Keys.{key_compare}
use Rattle.parts.specs.PartValue.{PartValue}

pub renamed : {E : Type 0} (r : Result PartValue E) (p q : FinMap (key_compare 8) ℕ) → p ≡ q →
    IfOk r (λ x. x.map ≡ p) → IfOk r (λ x. x.map ≡ q)
renamed (Ok x) p q e h = h ∙ e
renamed (Err x) p q e h = h
