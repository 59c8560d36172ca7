-- The constant term that decides whether a preparation can begin.
use Rattle.std.proofs.Common.{◌≡◌, ℕ, ◌<◌, List, length, get_or, sym, ◌∙◌, ap, subst}
use Rattle.std.proofs.lemmas.Nat.Gcd.{same_from_IsGcd}
use Rattle.std.specs.Arc.{arc_value}
use Rattle.std.specs.Int.{IsGcd}
use Rattle.std.specs.declared.alloc.Global.{Global}
use Rattle.std.specs.declared.sync.Arc.{Arc}
use Rattle.parts.specs.PartValue.{PartValue}
use Rattle.parts.specs.Rings.{modulus_of}
use Rattle.parts.specs.RowsOfParts.{parts_of, part_in}
use Rattle.parts.specs.Series.{constant_of}
use Rattle.parts.specs.declared.rings.Ring.{Ring}
use Rattle.parts.proofs.RowsRead.{part_read}
use Rattle.prepare.specs.Calls.{HasNoneBelow, IsWithoutInverse}

-- the constant term of the part at a place
pub same_constant : (ring : Ring) (row : List (Arc PartValue Global)) (k n : ℕ) (x : Arc PartValue Global)
    (p : PartValue) → k < length row → x ≡ get_or row k x → p ≡ arc_value x → n ≡ constant_of ring p
    → n ≡ constant_of ring (part_in (parts_of row) k)
same_constant ring row k n x p lt is same n_is =
    n_is ∙ ap (constant_of ring) (same ∙ sym (part_read row k x lt is))

-- it has no inverse
pub without_inverse : (ring : Ring) (k : ℕ) (row : List PartValue) (n m g : ℕ) → HasNoneBelow k row
    → n ≡ constant_of ring (part_in row k) → m ≡ modulus_of ring → 1 < g → IsGcd n m g → IsWithoutInverse ring k row g
without_inverse ring k row n m g none n_is m_is above gcd = record {
  none = none;
  above = above;
  divisor = subst (λ c. IsGcd c (modulus_of ring) g) n_is (subst (λ c. IsGcd n c g) m_is gcd);
}

-- the divisor is the only one
pub same_divisor : (ring : Ring) (k : ℕ) (row : List PartValue) (n m g h : ℕ) → n ≡ constant_of ring (part_in row k)
    → m ≡ modulus_of ring → IsGcd n m g → IsWithoutInverse ring k row h → g ≡ h
same_divisor ring k row n m g h n_is m_is gcd without = same_from_IsGcd (constant_of ring (part_in row k))
    (modulus_of ring) g h (subst (λ c. IsGcd c (modulus_of ring) g) n_is (subst (λ c. IsGcd n c g) m_is gcd))
    without.divisor
