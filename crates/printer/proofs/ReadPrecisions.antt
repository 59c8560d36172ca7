-- The digits of a precision, told up to the greatest u32.
use Rattle.std.proofs.Common.{◌≡◌, ℕ, suc, ◌+◌, ◌-◌, ◌*◌, ◌^◌, ◌<◌, ◌≤◌, min, true, List, ◌∷◌, length}
use Rattle.std.proofs.Common.{get_or, drop, drop-cons, refl, sym, ◌∙◌, ap, arith}
use Rattle.std.specs.Char.{is_ascii_digit}
use Rattle.printer.specs.ReadForms.{digits_from}

-- the digits before place i have the number n, which is told as v
pub record DigitsTold (bytes : List ℕ) (v i : ℕ) : Type 0 where
  pub n : ℕ
  pub told : v ≡ min n (2 ^ 32 - 1)
  pub same : digits_from n (drop i bytes) ≡ digits_from 0 bytes
  pub inside : i ≤ length bytes

pub told_begin : (bytes : List ℕ) → DigitsTold bytes 0 0
told_begin bytes = record { n = 0; told = refl; same = refl; inside = omega arith }

digit_read : (v : ℕ) (b : ℕ) (bs : List ℕ) → is_ascii_digit b ≡ true
    → digits_from v (b ∷ bs) ≡ digits_from (10 * v + (b - 48)) bs
digit_read v b bs h = rw h refl

pub told_next : (bytes : List ℕ) (v w i : ℕ) → i < length bytes → is_ascii_digit (get_or bytes i 0) ≡ true
    → w ≡ min (min (v * 10) (2 ^ 32 - 1) + (get_or bytes i 0 - 48)) (2 ^ 32 - 1) → DigitsTold bytes v i
    → DigitsTold bytes w (suc i)
told_next bytes v w i lt digit is before =
    let told = before.told in
    record {
      n = 10 * before.n + (get_or bytes i 0 - 48);
      told = omega arith;
      same = sym (ap (digits_from before.n) (drop-cons bytes i 0 lt)
          ∙ digit_read before.n (get_or bytes i 0) (drop (suc i) bytes) digit)
          ∙ before.same;
      inside = omega arith;
    }
