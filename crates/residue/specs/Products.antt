-- Sums of products of numbers, exact.
--     sum_below n f      f 0 + .. + f (n - 1); 0 where n is 0
--     reversed_dot a w      the sum of the products of the numbers of a and those of w read backwards, for two
--         lists of one length; 0 of the empty lists
use Rattle.std.specs.Prelude.{ℕ, zero, suc, ◌+◌, ◌-◌, ◌*◌, List, length, slice_index}

-- the sum of f at the numbers below n
abbrev pub sum_below : ℕ → (ℕ → ℕ) → ℕ
sum_below zero f = 0
sum_below (suc n) f = sum_below n f + f n

-- the sum of a_i * w_(n-1-i) for the i below n, where n is the length of a
abbrev pub reversed_dot : List ℕ → List ℕ → ℕ
reversed_dot a w = sum_below (length a) (λ i. slice_index a i * slice_index w (length a - 1 - i))
