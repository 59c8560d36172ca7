-- Facts of which there is one proof at most, for rows.
--     IsRowOfParts-IsProp      that these are parts of one degree
use Rattle.std.specs.Prelude.{ℕ, List}
use Rattle.std.specs.Coded.{Coded-set, le_prop}
use Rattle.std.proofs.Math.Nat.{ℕ_set}
use Rattle.ps_model.specs.Plain.{coded_key}
use Rattle.parts.specs.declared.rings.Ring.{Ring}
use Rattle.parts.specs.PartValue.{PartValue}
use Rattle.parts.specs.RowsOfParts.{IsRowOfParts}
use Rattle.ps_model.specs.Keys.{Key}

Key-IsSet : IsSet (Key 8)
Key-IsSet = Coded-set coded_key

pub IsRowOfParts-IsProp : (ring : Ring) (K r : ℕ) (row : List PartValue) → IsProp (IsRowOfParts ring K r row)
IsRowOfParts-IsProp ring K r row = hlevel (ℕ_set, le_prop, Key-IsSet)
