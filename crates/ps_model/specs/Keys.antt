-- Keys of n variables: their powers and a power of Y.
--     Powers n      n numbers, one for each variable
--     numbers n x      their list
--     powers_of n xs      the first n numbers of a list, 0 past its end
--     no_powers n      n times 0
--     weights_from n ws      the first n numbers of a list as weights: 1 where one is 0, or past its end
--     add_powers n x z      the sums place by place
--     weighted n w x      the sum of weight times power; 0 of no variable
--     ArePositive n w      no weight is 0
--     Key n      powers and a power of Y
--     add_keys n x z      the key of a product
--     y_key n j      the key of Y^j
--     key_numbers n k      the power of Y, then the powers
--     key_compare n      keys by falling power of Y, then of the first variable, and so on
use Rattle.std.specs.Prelude.{ℕ, zero, suc, ◌+◌, ◌*◌, ◌<◌, max, List, [], ◌∷◌}
use Rattle.std.specs.Ordering.{nat_cmp, on, flip_args}
use Rattle.std.specs.Cmp.Lexicographic.{slice_cmp}
use Rattle.std.specs.declared.cmp.Ordering.{Ordering}

abbrev pub Powers : ℕ → Type 0
Powers zero = Unit {0}
Powers (suc n) = ℕ × Powers n

abbrev pub numbers : (n : ℕ) → Powers n → List ℕ
numbers zero x = []
numbers (suc n) x = x.0 ∷ numbers n x.1

abbrev pub powers_of : (n : ℕ) → List ℕ → Powers n
powers_of zero xs = tt
powers_of (suc n) [] = (0, powers_of n [])
powers_of (suc n) (x ∷ xs) = (x, powers_of n xs)

abbrev pub weights_from : (n : ℕ) → List ℕ → Powers n
weights_from zero ws = tt
weights_from (suc n) [] = (1, weights_from n [])
weights_from (suc n) (w ∷ ws) = (max 1 w, weights_from n ws)

abbrev pub no_powers : (n : ℕ) → Powers n
no_powers zero = tt
no_powers (suc n) = (0, no_powers n)

abbrev pub add_powers : (n : ℕ) → Powers n → Powers n → Powers n
add_powers zero x z = tt
add_powers (suc n) x z = (x.0 + z.0, add_powers n x.1 z.1)

abbrev pub weighted : (n : ℕ) → Powers n → Powers n → ℕ
weighted zero w x = 0
weighted (suc n) w x = w.0 * x.0 + weighted n w.1 x.1

abbrev pub ArePositive : (n : ℕ) → Powers n → Type 0
ArePositive zero w = Unit {0}
ArePositive (suc n) w = (0 < w.0) × ArePositive n w.1

pub record Key (n : ℕ) : Type 0 where
  pub powers : Powers n
  pub y : ℕ

abbrev pub add_keys : (n : ℕ) → Key n → Key n → Key n
add_keys n x z = record { powers = add_powers n x.powers z.powers; y = x.y + z.y }

abbrev pub y_key : (n j : ℕ) → Key n
y_key n j = record { powers = no_powers n; y = j }

abbrev pub key_numbers : (n : ℕ) → Key n → List ℕ
key_numbers n k = k.y ∷ numbers n k.powers

abbrev pub key_compare : (n : ℕ) → Key n → Key n → Ordering
key_compare n = flip_args (on (key_numbers n) (slice_cmp nat_cmp))
