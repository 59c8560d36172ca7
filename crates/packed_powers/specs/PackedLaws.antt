-- The digits of a number make that number, so that it can be had back from the powers: proofs alone.
use Rattle.std.specs.Prelude.{◌≡◌, ℕ, zero, suc, ◌+◌, ◌*◌, ◌/◌, ◌%◌, ◌^◌, ◌<◌, length}
use Rattle.std.proofs.Common.{refl, sym, ap, ◌∙◌, arith}
use Rattle.std.proofs.Math.Nat.{mod-eq_of_lt}
use Rattle.std.proofs.lemmas.Nat.{mod-pow-add}
use Rattle.packed_powers.specs.Packed.{packed_number, digits, unpacked}

pub length-digits : (k n : ℕ) → length (digits k n) ≡ k
length-digits zero n = refl
length-digits (suc k) n = omega (arith, length-digits k n)

-- the number that the digits make
packed_digits : (k n : ℕ) → packed_number (digits k n) ≡ n % 2 ^ (12 * k)
packed_digits zero n = omega arith
packed_digits (suc k) n =
    ap (λ l. n / 2 ^ (12 * k) % 2 ^ 12 * 2 ^ (12 * l) + packed_number (digits k n)) (length-digits k n)
    ∙ ap (λ r. n / 2 ^ (12 * k) % 2 ^ 12 * 2 ^ (12 * k) + r) (packed_digits k n)
    ∙ sym (mod-pow-add n 12 (12 * k)) ∙ ap (λ e. n % 2 ^ e) more
  where
    more : 12 + 12 * k ≡ 12 * suc k
    more = omega arith

pub packed_unpacked : (n : ℕ) → n < 2 ^ 96 → packed_number (unpacked n) ≡ n
unfolding unpacked
packed_unpacked n lt = packed_digits 8 n ∙ mod-eq_of_lt lt
