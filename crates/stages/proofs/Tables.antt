-- The table to compute with.
use Rattle.std.proofs.Common.{ℕ, ◌≡◌, ◌<◌, Option, Some, sym, ◌∙◌, subst, Result, Ok, Err}
use Rattle.std.specs.Result.{OnOk, OnErr}
use Rattle.parts.specs.declared.rings.Ring.{Ring}
use Rattle.prepare.specs.PrepValue.{PrepValue, degrees_of}
use Rattle.taylor.specs.SharedTables.{HasNumbers, table_of, IsTableFor}
use Rattle.taylor.specs.declared.shared.Table.{Table}
use Rattle.taylor.specs.declared.shared.Table.TheVariants.{Shared, Own}
use Rattle.stages.specs.Titles.{TitleValue}
use Rattle.stages.specs.Splitters.{prepared_in, IsBegunFor, IsPreparationOf}

pub has_numbers : (m n : ℕ) (t : Table) → IsTableFor m n t → HasNumbers m n (table_of t)
has_numbers m n (Shared t) is = is
has_numbers m n (Own own found) is = is.0

-- the preparation that is there
pub begun_some : (title : TitleValue) (ring : Ring) (o : Option PrepValue) (prep : PrepValue) → o ≡ Some prep
    → IsBegunFor title ring o → IsPreparationOf title ring prep
begun_some title ring o prep e h = subst (IsBegunFor title ring) e h

-- how many degrees it has
pub degrees_some : (o now : Option PrepValue) (prep : PrepValue) (n : ℕ) → o ≡ now → o ≡ Some prep
    → n < prepared_in now → n < degrees_of prep
degrees_some o now prep n same e lt = subst (λ t. n < prepared_in t) (sym same ∙ e) lt

-- what follows from either answer
pub either : {T E : Type 0} (r : Result T E) (P Q C : Type 0) → OnOk r P → OnErr r Q → (P → C) → (Q → C) → C
either (Ok x) P Q C p q f g = f p
either (Err e) P Q C p q f g = g q
