-- A stage of a list that is seen as it was.
use Rattle.std.proofs.Common.{◌≡◌, ℕ, zero, suc, ◌<◌, List, [], ◌∷◌, length, map, get_or, set, ap, ◌∙◌, arith}

-- where what is seen of an item stays, what is seen of the list does
pub set_seen : {T S : Type 0} (see : T → S) (xs : List T) (i : ℕ) (x y z : T) → i < length xs → z ≡ get_or xs i x
    → see y ≡ see z → map see (set xs i y) ≡ map see xs
set_seen see [] i x y z lt here same = absurd (omega arith)
set_seen see (w ∷ ws) zero x y z lt here same = λ k. (same ∙ ap see here) k ∷ map see ws
set_seen see (w ∷ ws) (suc i) x y z lt here same = λ k. see w ∷ set_seen see ws i x y z (omega arith) here same k
