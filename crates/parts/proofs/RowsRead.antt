-- Rows that are read.
use Rattle.std.proofs.Common.{◌≡◌, ℕ, ◌<◌, List, [], length, get_or, sym, ◌∙◌, ap, subst}
use Rattle.std.proofs.lemmas.List.{get_or-map, length-map}
use Rattle.std.specs.Arc.{arc_value}
use Rattle.std.specs.declared.alloc.Global.{Global}
use Rattle.std.specs.declared.sync.Arc.{Arc}
use Rattle.std.specs.declared.vec.Vec.{Vec}
use Rattle.parts.specs.PartValue.{PartValue}
use Rattle.parts.specs.RowsOfParts.{parts_of, parts_in, nothing, part_in, IsRowOfParts, AreRowsOfParts}
use Rattle.parts.specs.declared.rings.Ring.{Ring}

-- what row r shares
pub row_read : (rows : List (Vec (Arc PartValue Global) Global)) (r : ℕ) (v : Vec (Arc PartValue Global) Global)
    (row : List (Arc PartValue Global)) → r < length rows → v ≡ get_or rows r v → row ≡ v.items
    → parts_of row ≡ get_or (parts_in rows) r []
row_read rows r v row lt is items = ap parts_of (items ∙ ap (λ (t : Vec (Arc PartValue Global) Global). t.items) is)
    ∙ sym (get_or-map (λ (t : Vec (Arc PartValue Global) Global). parts_of t.items) rows r v [] lt)

-- a row that is read is a row of parts
pub row_read_is : (ring now_ring : Ring) (K now_K : ℕ) (rows : List (Vec (Arc PartValue Global) Global)) (r : ℕ)
    (v : Vec (Arc PartValue Global) Global) (row : List (Arc PartValue Global)) → r < length rows
    → v ≡ get_or rows r v → row ≡ v.items → AreRowsOfParts ring K (parts_in rows) → ring ≡ now_ring → K ≡ now_K
    → IsRowOfParts now_ring now_K r (parts_of row)
row_read_is ring now_ring K now_K rows r v row lt is items rows_are same_ring same_K =
    subst (λ R. IsRowOfParts R now_K r (parts_of row)) same_ring
    (subst (λ n. IsRowOfParts ring n r (parts_of row)) same_K
    (subst (IsRowOfParts ring K r) (sym (row_read rows r v row lt is items))
    (rows_are r (subst (λ n. r < n)
    (sym (length-map rows (λ (t : Vec (Arc PartValue Global) Global). parts_of t.items))) lt))))

-- the part at a place
pub part_read : (row : List (Arc PartValue Global)) (i : ℕ) (x : Arc PartValue Global) → i < length row
    → x ≡ get_or row i x → part_in (parts_of row) i ≡ arc_value x
part_read row i x lt is = get_or-map arc_value row i x nothing lt ∙ ap arc_value (sym is)
