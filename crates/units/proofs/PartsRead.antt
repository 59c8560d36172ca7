-- Parts that are read.
use Rattle.std.proofs.Common.{◌≡◌, ℕ, ◌<◌, List, length, get_or, sym, ◌∙◌, subst}
use Rattle.std.proofs.lemmas.List.{length-map}
use Rattle.std.specs.Arc.{arc_value}
use Rattle.std.specs.declared.alloc.Global.{Global}
use Rattle.std.specs.declared.sync.Arc.{Arc}
use Rattle.parts.specs.PartValue.{PartValue}
use Rattle.parts.specs.RowsOfParts.{parts_of, part_in}
use Rattle.parts.specs.declared.rings.Ring.{Ring}
use Rattle.parts.proofs.RowsRead.{part_read}
use Rattle.units.specs.SeriesParts.{IsPartAt, AreSeriesParts}

-- how many parts there are
pub parts_count : (row : List (Arc PartValue Global)) → length (parts_of row) ≡ length row
parts_count row = length-map row arc_value

-- the part at a place
pub read_is : (ring : Ring) (row : List (Arc PartValue Global)) (i : ℕ) (x : Arc PartValue Global) (p : PartValue)
    → AreSeriesParts ring (parts_of row) → i < length row → x ≡ get_or row i x → p ≡ arc_value x
    → (p ≡ part_in (parts_of row) i) × IsPartAt ring i p
read_is ring row i x p are lt is value =
    let same : p ≡ part_in (parts_of row) i = value ∙ sym (part_read row i x lt is) in
    (same, subst (IsPartAt ring i) (sym same) (are i (subst (λ n. i < n) (sym (parts_count row)) lt)))
