-- What contracts see of the parts of factors and of a lead.
--     BlockValue      the ring, the roots, of each factor the rows that are there, one for each degree from 0 on,
--         by power of Y, the parts of the lead, and whether it is shown
--     rows_of value i      the rows of factor i; none past the last
--     each_alone parts      rows of one part each
--     IsBlockValue names value      there are names enough, a root at least, a factor for each root, and all parts
--         are of the ring and of their degree
--     HasUpTo value d      of each factor and of the lead the degrees up to d are there
--     Reaches known d      d is at most the degree that is known; of None no degree is
--     row_at value i r      the row of degree r of factor i;  part_at, the part at a power of Y in it;
--         none past the ends
use Rattle.std.specs.Prelude.{ℕ, ◌<◌, ◌≤◌, ◌≡◌, Bool, Option, Some, None, List, [], ◌∷◌, length, map, slice_index_or}
use Rattle.std.specs.List.{All}
use Rattle.ps_model.specs.declared.job.Root.{Root}
use Rattle.parts.specs.PartValue.{PartValue}
use Rattle.parts.specs.Rings.{modulus_of, variables_of}
use Rattle.parts.specs.RowsOfParts.{part_in, AreRowsOfParts}
use Rattle.parts.specs.declared.rings.Ring.{Ring}

pub record BlockValue : Type 0 where
  pub ring : Ring
  pub roots : List Root
  pub rows : List (List (List PartValue))
  pub lead : List PartValue
  pub shows_lead : Bool

abbrev pub rows_of : BlockValue → ℕ → List (List PartValue)
rows_of value i = slice_index_or value.rows i []

abbrev pub each_alone : List PartValue → List (List PartValue)
each_alone parts = map (λ p. p ∷ []) parts

pub record IsBlockValue (names : List (List ℕ)) (value : BlockValue) : Type 0 where
  pub named : variables_of value.ring ≤ length names
  pub some : 0 < length value.roots
  pub residues : All (λ root. root.value < modulus_of value.ring) value.roots
  pub factors : length value.rows ≡ length value.roots
  pub rows : (i : ℕ) (root : Root) → i < length value.roots
      → AreRowsOfParts value.ring (slice_index_or value.roots i root).times (rows_of value i)
  pub lead_parts : AreRowsOfParts value.ring 0 (each_alone value.lead)

abbrev pub HasUpTo : BlockValue → ℕ → Type 0
HasUpTo value d =
    ((i : ℕ) → i < length value.roots → d < length (rows_of value i)) × (d < length value.lead)

abbrev pub Reaches : Option ℕ → ℕ → Type 0
Reaches None d = ⊥
Reaches (Some known) d = d ≤ known

abbrev pub row_at : BlockValue → ℕ → ℕ → List PartValue
row_at value i r = slice_index_or (rows_of value i) r []

abbrev pub part_at : BlockValue → ℕ → ℕ → ℕ → PartValue
part_at value i power r = part_in (row_at value i r) power
