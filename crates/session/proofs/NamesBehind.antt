-- Names, one behind the other.
use Rattle.std.proofs.Common.{◌≡◌, ℕ, suc, ◌+◌, List, [], ◌∷◌, ◌++◌, take, Some, sym, ◌∙◌, ap, arith}
use Rattle.std.specs.Prelude.{slice_get}
use Rattle.std.proofs.lemmas.Option.{slice_get_within, get_or_from_slice_get}
use Rattle.std.proofs.Math.Seq.{take-suc}

pub name_behind : (names copy : List (List ℕ)) (i : ℕ) (name : List ℕ) → copy ≡ take i names
    → slice_get names i ≡ Some name → copy ++ name ∷ [] ≡ take (i + 1) names
name_behind names copy i name same at =
    ap (λ (l : List (List ℕ)). l ++ name ∷ []) same
    ∙ ap (λ (x : List ℕ). take i names ++ x ∷ []) (sym (get_or_from_slice_get names i name name at))
    ∙ sym (take-suc names i name (slice_get_within names i name at))
    ∙ ap (λ n. take n names) (let e : suc i ≡ i + 1 = omega arith in e)
