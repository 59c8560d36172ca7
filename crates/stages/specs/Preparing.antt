-- One more degree of a preparation that may not have begun.
--     CanBegin ring k row      the parts of degree 0 of a polynomial that has a preparation: 0 below Y^k,
--         and at Y^k a unit
--     HasNextRow ring k row o      the row can begin a preparation, or is of the next degree of the one
--         that is there
--     IsNextPreparation ring k row old new      the row began the preparation, or was added to it
use Rattle.std.specs.Prelude.{◌≡◌, ℕ, ◌+◌, ◌-◌, ◌<◌, ◌≤◌, List, length, Option, Some, None}
use Rattle.ps_model.specs.Bounds.{IsUnit}
use Rattle.ps_model.specs.Notation.{zero}
use Rattle.parts.specs.declared.rings.Ring.{Ring}
use Rattle.parts.specs.PartValue.{PartValue}
use Rattle.parts.specs.Rings.{modulus_of}
use Rattle.parts.specs.RowsOfParts.{part_in, IsRowOfParts}
use Rattle.parts.specs.Series.{polynomial_in, constant_of}
use Rattle.prepare.specs.Calls.{Begins, Adds}
use Rattle.prepare.specs.PrepValue.{PrepValue, degrees_of}

pub record CanBegin (ring : Ring) (k : ℕ) (row : List PartValue) : Type 0 where
  pub lower : (i : ℕ) → i < k → polynomial_in ring (part_in row i).map ≡ zero
  pub unit : IsUnit (modulus_of ring) (constant_of ring (part_in row k))

abbrev pub HasNextRow : Ring → ℕ → List PartValue → Option PrepValue → Type 0
HasNextRow ring k row None =
    (k < length row) × (length row ≤ 33) × IsRowOfParts ring (length row - 1) 0 row × CanBegin ring k row
HasNextRow ring k row (Some prep) =
    IsRowOfParts prep.ring (prep.k + prep.q) (degrees_of prep) row × (degrees_of prep ≤ 4095)

abbrev pub IsNextPreparation : Ring → ℕ → List PartValue → Option PrepValue → Option PrepValue → Type 0
IsNextPreparation ring k row None new = (prep : PrepValue) × (new ≡ Some prep) × Begins ring k row prep
IsNextPreparation ring k row (Some old) new = (prep : PrepValue) × (new ≡ Some prep) × Adds row old prep
