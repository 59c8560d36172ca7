-- The parts of a row.
use Rattle.std.proofs.Common.{◌≡◌, ℕ, ◌+◌, ◌<◌, List, [], ◌∷◌, ◌++◌, length, get_or, sym, ◌∙◌, ap, subst, arith}
use Rattle.std.proofs.lemmas.List.{length-map, map-append}
use Rattle.std.specs.Arc.{arc_value}
use Rattle.std.specs.declared.sync.Arc.{Arc}
use Rattle.std.specs.declared.alloc.Global.{Global}
use Rattle.parts.specs.PartValue.{PartValue, IsPartOf}
use Rattle.parts.specs.RowsOfParts.{parts_of, nothing, part_in}
use Rattle.parts.specs.declared.rings.Ring.{Ring}
use Rattle.parts.proofs.RowsRead.{part_read}
use Rattle.taylor.specs.Shifts.{AreRowParts}
use Rattle.taylor.proofs.Triangles.{each_more}

-- a part that is read is the one at its place
pub place_is : (row : List (Arc PartValue Global)) (j : ℕ) (x : Arc PartValue Global) (p : PartValue)
    → j < length row → x ≡ get_or row j x → p ≡ arc_value x → p ≡ part_in (parts_of row) j
place_is row j x p lt is same = same ∙ sym (part_read row j x lt is)

-- all are of one degree
pub degree_there : (ring : Ring) (row : List (Arc PartValue Global)) (j : ℕ) (p : PartValue)
    (are : AreRowParts ring (parts_of row)) → j < length row → p ≡ part_in (parts_of row) j → p.degree ≡ are.r
degree_there ring row j p are lt is = ap (λ q. q.degree) is
    ∙ are.row_is.degrees j nothing (omega (arith, length-map row arc_value))

-- and of the ring
pub part_there : (ring : Ring) (row : List (Arc PartValue Global)) (j : ℕ) (p : PartValue)
    → AreRowParts ring (parts_of row) → j < length row → p ≡ part_in (parts_of row) j → IsPartOf ring p
part_there ring row j p are lt is =
    subst (IsPartOf ring) (sym is) (are.row_is.parts j nothing (omega (arith, length-map row arc_value)))

-- what holds of each part of a row, and of one more
pub parts_more : (P : ℕ → PartValue → Type 0) (xs all : List (Arc PartValue Global)) (x : Arc PartValue Global)
    (n : ℕ) → length xs ≡ n → all ≡ xs ++ x ∷ []
    → ((i : ℕ) (other : PartValue) → i < n → P i (get_or (parts_of xs) i other)) → P n (arc_value x)
    → (i : ℕ) (other : PartValue) → i < n + 1 → P i (get_or (parts_of all) i other)
parts_more P xs all x n size is each last i other lt =
    subst (λ ps. P i (get_or ps i other)) (sym (ap parts_of is ∙ map-append arc_value xs (x ∷ [])))
    (each_more P (parts_of xs) (arc_value x) other n (length-map xs arc_value ∙ size) (λ k low. each k other low) last
    i lt)
