-- Rows of parts: of each degree the parts by power of Y, from Y^0 on.
--     parts_of row      the parts that a row shares;  parts_in rows, the same of rows
--     nothing      the part without terms
--     part_in row j      the part at place j, nothing past the end
--     IsRowOfParts ring K r row      for each power of Y from 0 to K a part of the ring of degree r
--     AreParts ring r row      parts of the ring of degree r
--     AreRowsOfParts ring K rows      the rows are of degrees 0, 1 and so on
use Rattle.std.specs.Prelude.{◌≡◌, ℕ, suc, ◌<◌, List, [], length, map, slice_index_or}
use Rattle.std.specs.List.{All}
use Rattle.std.specs.Arc.{arc_value}
use Rattle.std.specs.FinMap.{empty}
use Rattle.std.specs.declared.alloc.Global.{Global}
use Rattle.std.specs.declared.sync.Arc.{Arc}
use Rattle.std.specs.declared.vec.Vec.{Vec}
use Rattle.parts.specs.PartValue.{PartValue, IsPartOf}
use Rattle.parts.specs.declared.rings.Ring.{Ring}

-- the parts that a row shares
abbrev pub parts_of : List (Arc PartValue Global) → List PartValue
parts_of row = map arc_value row

-- the parts that rows share
abbrev pub parts_in : List (Vec (Arc PartValue Global) Global) → List (List PartValue)
parts_in rows = map (λ row. parts_of row.items) rows

-- the part without terms
abbrev pub nothing : PartValue
nothing = record { degree = 0; map = empty }

-- the part at a place
abbrev pub part_in : List PartValue → ℕ → PartValue
part_in row j = slice_index_or row j nothing

-- a row of one degree, for the powers of Y up to K
pub record IsRowOfParts (ring : Ring) (K r : ℕ) (row : List PartValue) : Type 0 where
  pub places : length row ≡ suc K
  pub degrees : All (λ p. p.degree ≡ r) row
  pub parts : All (IsPartOf ring) row

-- parts of the ring of degree r
abbrev pub AreParts : Ring → ℕ → List PartValue → Type 0
AreParts ring r row = All (λ p. (p.degree ≡ r) × IsPartOf ring p) row

-- rows of the degrees from 0 on
abbrev pub AreRowsOfParts : Ring → ℕ → List (List PartValue) → Type 0
AreRowsOfParts ring K rows = (r : ℕ) → r < length rows → IsRowOfParts ring K r (slice_index_or rows r [])
