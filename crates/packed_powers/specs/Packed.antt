-- The powers of eight variables, and the one number that keeps them, with 12 bits a power.
--     PowersValue      the power of each variable, the first one first
--     ArePowers ps      ps are eight powers, each at most 4,095
--     packed_number ps      the sum of each power times 2 to 12 times the number of powers behind it;
--         0 of no powers
--     digits k n      the last k digits of n, of 12 bits each, the highest one first; [] for k = 0
--     unpacked n      its last eight
use Rattle.std.specs.Prelude.{◌≡◌, ℕ, zero, suc, ◌+◌, ◌*◌, ◌/◌, ◌%◌, ◌^◌, ◌≤◌, List, [], ◌∷◌, length}
use Rattle.std.specs.List.{All}

-- the powers of a monomial, however they are kept
pub record PowersValue : Type 0 where
  pub powers : List ℕ

pub record ArePowers (ps : List ℕ) : Type 0 where
  pub eight : length ps ≡ 8
  pub low : All (λ p. p ≤ 4095) ps

-- for eight powers p0 * 2^84 + p1 * 2^72 + .. + p7
abbrev pub packed_number : List ℕ → ℕ
packed_number [] = 0
packed_number (p ∷ ps) = p * 2 ^ (12 * length ps) + packed_number ps

abbrev pub digits : ℕ → ℕ → List ℕ
digits zero n = []
digits (suc k) n = n / 2 ^ (12 * k) % 2 ^ 12 ∷ digits k n

unfoldable pub unpacked : ℕ → List ℕ
unpacked n = digits 8 n
