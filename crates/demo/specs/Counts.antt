-- Terms of a factor, counted part by part.
--     sum_below n f      f 0 + f 1 + .. + f (n - 1), and 0 for n = 0
--     number_in p, total_in p      how many terms a part has, and the sum of their coefficients
--     numbers_at value i j, totals_at value i j      the same of all parts of factor i at Y^j up to degree 40
use Rattle.std.specs.Prelude.{ℕ, zero, suc, ◌+◌, length, map, sum}
use Rattle.parts.specs.PartValue.{PartValue}
use Rattle.printer.specs.Rows.{terms_in}
use Rattle.printer.specs.View.{BlockValue, part_at}

abbrev pub sum_below : ℕ → (ℕ → ℕ) → ℕ
sum_below zero f = 0
sum_below (suc n) f = sum_below n f + f n

abbrev pub number_in : PartValue → ℕ
number_in p = length (terms_in p)

abbrev pub total_in : PartValue → ℕ
total_in p = sum (map (λ t. t.1) (terms_in p))

abbrev pub numbers_at : BlockValue → ℕ → ℕ → ℕ
numbers_at value i j = sum_below 41 (λ r. number_in (part_at value i j r))

abbrev pub totals_at : BlockValue → ℕ → ℕ → ℕ
totals_at value i j = sum_below 41 (λ r. total_in (part_at value i j r))
