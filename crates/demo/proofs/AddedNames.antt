-- A name that isn't there yet is added, where memory can be had.
use Rattle.std.proofs.Common.{◌≡◌, ◌≢◌, ◌↔◌, ℕ, ◌<◌, Bool, true, false, List, Some, Result, Err, refl, sym, ◌∙◌, arith}
use Rattle.std.specs.Prelude.{IsErrOf, slice_get}
use Rattle.expr_reader.specs.declared.name_error.NameError.{NameError}
use Rattle.expr_reader.specs.declared.name_error.NameError.TheVariants.{TooMany, BadName, Repeats, OutOfMemory}

pub no_error : (r : Result ℕ NameError) (error : NameError) (n : ℕ) (valid : Bool) (old : List (List ℕ)) (name : List ℕ)
    → r ≡ Err error → error ≢ OutOfMemory
    → IsErrOf r TooMany ↔ (n ≡ 8)
    → IsErrOf r BadName ↔ ((n < 8) × (valid ≡ false))
    → ((first : ℕ) → IsErrOf r (Repeats first) ↔ ((n < 8) × (valid ≡ true) × (slice_get old first ≡ Some name)))
    → n < 8 → valid ≡ true → ((i : ℕ) → slice_get old i ≡ Some name → ⊥) → ⊥
no_error r TooMany n valid old name is other many bad again low good once =
    let eight = many.0 is in omega arith
no_error r BadName n valid old name is other many bad again low good once =
    no_truth (sym good ∙ (bad.0 is).1)
  where
    no_truth : true ≡ false → ⊥
    no_truth e = cc
no_error r (Repeats first) n valid old name is other many bad again low good once =
    once first ((again first).0 is).2
no_error r OutOfMemory n valid old name is other many bad again low good once = absurd (other refl)
