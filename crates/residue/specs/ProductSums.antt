-- Sums of products of residues, as contracts see them, and how they are held.
--     ProductSumValue      a modulus, and the residue of what was added
--     with_products s a w      s with the products of a and w, read backwards, added
--     Gains s t n      t is s with the number n added, modulo its modulus
--     exact_of e      the number that an Exact is, below 2^192
--     limit_of kernel      what the sums of a kernel stay below
--     IsChosen m kernel most      the kernel takes products of residues modulo m, and as many as most and a
--         residue stay below its limit
--     HasRoom m kernel e left      so many products may be added
use Rattle.std.specs.Prelude.{◌≡◌, ℕ, ◌+◌, ◌-◌, ◌*◌, ◌%◌, ◌^◌, ◌<◌, ◌≤◌, List}
use Rattle.residue.specs.Products.{reversed_dot}
use Rattle.residue.specs.declared.exact.Exact.{Exact}
use Rattle.residue.specs.declared.kernels.Kernel.{Kernel}
use Rattle.residue.specs.declared.kernels.Kernel.TheVariants.{OneWord, Halves, Fours}

-- a modulus, and the residue of the sum
pub record ProductSumValue : Type 0 where
  pub modulus : ℕ
  pub residue : ℕ

-- the sum with the products of two lists added, the second read backwards
abbrev pub with_products : ProductSumValue → List ℕ → List ℕ → ProductSumValue
with_products s a w = record s { residue = (s.residue + reversed_dot a w) % s.modulus }

-- the sum with a number added
pub record Gains (s t : ProductSumValue) (n : ℕ) : Type 0 where
  pub modulus_is : t.modulus ≡ s.modulus
  pub residue_is : t.residue % s.modulus ≡ (s.residue + n) % s.modulus

-- the number that two words are
abbrev pub exact_of : Exact → ℕ
exact_of e = e.low + 2 ^ 64 * e.high

-- what the sums of a kernel stay below
abbrev pub limit_of : Kernel → ℕ
limit_of OneWord = 2 ^ 64
limit_of Halves = 2 ^ 192
limit_of Fours = 2 ^ 192

-- which numbers a kernel takes, m being the modulus, and how many at once
abbrev pub Takes : Kernel → ℕ → ℕ → Type 0
Takes OneWord m most = m ≤ 2 ^ 32
Takes Halves m most = (m ≤ 2 ^ 32) × (most < 2 ^ 32)
Takes Fours m most = Unit {0}

-- a kernel for the modulus, and how many products it takes between two reductions
pub record IsChosen (m : ℕ) (kernel : Kernel) (most : ℕ) : Type 0 where
  pub takes : Takes kernel m most
  pub room : m + most * ((m - 1) * (m - 1)) ≤ limit_of kernel

-- so many products of residues modulo m may be added to the sum
abbrev pub HasRoom : ℕ → Kernel → Exact → ℕ → Type 0
HasRoom m kernel e left = exact_of e + left * ((m - 1) * (m - 1)) < limit_of kernel
