-- Residues: the numbers below a modulus.
--     number_of m      the number m itself, from 2 to 2^63 - 1
--     IsResidue m a      a is below m
--     IsInverse m a x      x is a residue, and a * x leaves 1
use Rattle.std.specs.Prelude.{◌≡◌, ℕ, ◌*◌, ◌%◌, ◌<◌}
use Rattle.residue.specs.declared.Modulus.{Modulus}

-- the number of a modulus
abbrev pub number_of : Modulus → ℕ
number_of m = m.value

-- a number below the modulus
abbrev pub IsResidue : Modulus → ℕ → Type 0
IsResidue m a = a < number_of m

-- the inverse of a, as a residue
pub record IsInverse (m : Modulus) (a x : ℕ) : Type 0 where
  pub residue : x < number_of m
  pub product : (a * x) % number_of m ≡ 1
