use Rattle.std.proofs.Common.{◌≡◌, ℕ, [], length, map, replicate, Some}
use Rattle.std.specs.Prelude.{slice_get}
use Rattle.std.specs.Arc.{arc_value}
use Rattle.rows.specs.Fits.{values}
use Rattle.stages.proofs.own_rows.empty_rows.Given as goal

abbrev pub invariant-loop-stage : goal.invariant-loop-stage
invariant-loop-stage l = record {
  count : length l.rows.items ≡ l.stage;
  empty : (s : ℕ) (row : _) → slice_get l.rows.items s ≡ Some row → values row.items.items ≡ [];
  titles : (s : ℕ) (row : _) → slice_get l.rows.items s ≡ Some row
      → row.title ≡ record { job = arc_value l.job; stage = s };
  capacities : map (λ row. row.capacity) l.rows.items ≡ replicate l.stage l.capacity;
}
