-- Keys of monomials, and what contracts see of one.
--     MonomialValue      the power of each of eight variables
--     key_from xs      the key with these powers and no Y; powers past the eighth count for
--         nothing, and missing ones are 0
use Rattle.std.specs.Prelude.{ℕ, List}
use Rattle.ps_model.specs.Keys.{Key, powers_of}

abbrev pub key_from : List ℕ → Key 8
key_from xs = record { powers = powers_of 8 xs; y = 0 }

-- the powers of a monomial, however it keeps them
pub record MonomialValue : Type 0 where
  pub powers : List ℕ
