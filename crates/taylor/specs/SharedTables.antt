-- Tables that are shared.
--     table_of t      the table to compute with: the shared one, or the caller's own
--     HasNumbers m n t      the table t has modulus m and at least the size n
--     IsTableFor m n t      t's table has the numbers up to n modulo m; a table of its own comes only
--         where the shared one has another modulus or a smaller size
use Rattle.std.specs.Prelude.{◌≡◌, ℕ, ◌≤◌}
use Rattle.taylor.specs.Binomials.{BinomialsValue}
use Rattle.taylor.specs.declared.shared.Table.{Table}
use Rattle.taylor.specs.declared.shared.Table.TheVariants.{Shared, Own}

pub record HasNumbers (m n : ℕ) (t : BinomialsValue) : Type 0 where
  pub modulus : t.modulus ≡ m
  pub size : n ≤ t.size

abbrev pub table_of : Table → BinomialsValue
table_of (Shared t) = t.now
table_of (Own own found) = own

abbrev pub IsTableFor : ℕ → ℕ → Table → Type 0
IsTableFor m n (Shared t) = HasNumbers m n t.now
IsTableFor m n (Own own found) = HasNumbers m n own × (HasNumbers m n found.now → ⊥)
