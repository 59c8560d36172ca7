-- Stages that were taken out and publish: they can be given back.
use Rattle.std.proofs.Common.{◌≡◌, ℕ, zero, suc, ◌<◌, List, [], ◌∷◌, length, map, get_or, set, sym, ◌∙◌, ap, subst, arith}
use Rattle.std.specs.Vec.{with_items}
use Rattle.std.specs.declared.alloc.Global.{Global}
use Rattle.std.specs.declared.vec.Vec.{Vec}
use Rattle.std.proofs.lemmas.Simd.{map-map}
use Rattle.stages.specs.States.{StageState}
use Rattle.stages.specs.Titles.{TitleValue}
use Rattle.stages.proofs.Raises.{written_back}

-- where what is seen of one stage stays, what is seen of all stays
pub same_seen : {T : Type 0} (see : T → StageState) (xs : List T) (i : ℕ) (x y : T) → x ≡ get_or xs i x → i < length xs
    → see y ≡ see x → map see (set xs i y) ≡ map see xs
same_seen see [] i x y at lt same = absurd (omega arith)
same_seen see (z ∷ zs) zero x y at lt same = ap (λ s. s ∷ map see zs) (same ∙ ap see at)
same_seen see (z ∷ zs) (suc i) x y at lt same = ap (λ l. see z ∷ l) (same_seen see zs i x y at (omega arith) same)

-- the titles of a vector whose slice was lent, where what is seen of its stages stays
pub titles_back : {T : Type 0} (see : T → StageState) (v : Vec T Global) (xs ys : List T) (titles : List TitleValue)
    → xs ≡ v.items → map see ys ≡ map see xs → map (λ s. (see s).title) v.items ≡ titles
    → map (λ s. (see s).title) (with_items v ys).items ≡ titles
titles_back see v xs ys titles seen same are =
    subst (λ l. map (λ s. (see s).title) l ≡ titles) (sym (written_back see v xs ys seen (ap length same)))
    (sym (map-map (λ s. s.title) see ys) ∙ ap (map (λ s. s.title)) same ∙ map-map (λ s. s.title) see xs
    ∙ ap (map (λ s. (see s).title)) seen ∙ are)
