-- Parts at places of rows.
use Rattle.std.proofs.Common.{◌≡◌, ℕ, ◌<◌, ◌≤◌, List, length, get_or, sym, ◌∙◌, subst, arith}
use Rattle.std.proofs.lemmas.List.{length-map}
use Rattle.std.specs.Arc.{arc_value}
use Rattle.std.specs.declared.alloc.Global.{Global}
use Rattle.std.specs.declared.sync.Arc.{Arc}
use Rattle.std.specs.declared.vec.Vec.{Vec}
use Rattle.parts.specs.PartValue.{PartValue, IsPartOf}
use Rattle.parts.specs.RowsOfParts.{parts_of, parts_in, nothing, part_in, IsRowOfParts}
use Rattle.parts.specs.declared.rings.Ring.{Ring}
use Rattle.parts.proofs.RowsRead.{part_read}

-- a part of the ring of degree r
abbrev pub IsPartAt : Ring → ℕ → PartValue → Type 0
IsPartAt ring r p = (p.degree ≡ r) × IsPartOf ring p

-- how many rows there are
pub rows_count : (rows : List (Vec (Arc PartValue Global) Global)) → length (parts_in rows) ≡ length rows
rows_count rows = length-map rows (λ (t : Vec (Arc PartValue Global) Global). parts_of t.items)

-- a part of a row
pub row_part : (ring : Ring) (K r : ℕ) (row : List (Arc PartValue Global)) (i : ℕ) (x : Arc PartValue Global)
    (p : PartValue) → IsRowOfParts ring K r (parts_of row) → i ≤ K → x ≡ get_or row i x → p ≡ arc_value x
    → IsPartAt ring r p × (p ≡ part_in (parts_of row) i)
row_part ring K r row i x p is le at same =
    let long = length-map row arc_value in
    let count = is.places in
    let within : i < length (parts_of row) = omega arith in
    let here : p ≡ part_in (parts_of row) i = same ∙ sym (part_read row i x (omega arith) at) in
    (subst (IsPartAt ring r) (sym here) (is.degrees i nothing within, is.parts i nothing within), here)
