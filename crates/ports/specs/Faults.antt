-- Counts of faults, which never fall and stop at 2^64 - 1.
--     raised count      one more; 2^64 - 1 stays
--     Rose before now      the count rose by one at least, or stands at its last value
use Rattle.std.specs.Prelude.{ℕ, ◌+◌, ◌-◌, ◌^◌, ◌≤◌, min}

abbrev pub raised : ℕ → ℕ
raised count = min (count + 1) (2 ^ 64 - 1)

abbrev pub Rose : ℕ → ℕ → Type 0
Rose before now = raised before ≤ now
