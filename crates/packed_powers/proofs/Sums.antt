-- The powers of a product of monomials.
use Rattle.std.proofs.Common.{◌≡◌, ℕ, zero, suc, ◌+◌, ◌*◌, ◌^◌, ◌<◌, ◌≤◌, List, [], ◌∷◌, length, get_or, refl, sym}
use Rattle.std.proofs.Common.{ap, subst, ◌∙◌, arith}
use Rattle.std.proofs.lemmas.List.{get_or_default}
use Rattle.packed_powers.specs.Packed.{packed_number, unpacked, ArePowers}
use Rattle.packed_powers.specs.PackedLaws.{packed_unpacked}
use Rattle.packed_powers.proofs.Digits.{packed_fits, unpacked_packed, unpacked-ArePowers}

-- the sums place by place
abbrev sums : List ℕ → List ℕ → List ℕ
sums [] ys = []
sums (x ∷ xs) [] = []
sums (x ∷ xs) (y ∷ ys) = (x + y) ∷ sums xs ys

length-sums : (xs ys : List ℕ) → length xs ≡ length ys → length (sums xs ys) ≡ length xs
length-sums [] ys same = refl
length-sums (x ∷ xs) [] same = absurd (omega arith)
length-sums (x ∷ xs) (y ∷ ys) same = omega (arith, length-sums xs ys (omega arith))

sums_at : (xs ys : List ℕ) (i : ℕ) → length xs ≡ length ys → get_or (sums xs ys) i 0 ≡ get_or xs i 0 + get_or ys i 0
sums_at [] [] i same = omega arith
sums_at [] (y ∷ ys) i same = absurd (omega arith)
sums_at (x ∷ xs) [] i same = absurd (omega arith)
sums_at (x ∷ xs) (y ∷ ys) zero same = refl
sums_at (x ∷ xs) (y ∷ ys) (suc i) same = sums_at xs ys i (omega arith)

-- no carry goes from one power to the next: the numbers add up as the powers do
packed-sums : (xs ys : List ℕ) → length xs ≡ length ys →
    packed_number (sums xs ys) ≡ packed_number xs + packed_number ys
packed-sums [] [] same = refl
packed-sums [] (y ∷ ys) same = absurd (omega arith)
packed-sums (x ∷ xs) [] same = absurd (omega arith)
packed-sums (x ∷ xs) (y ∷ ys) same = ap (λ l. (x + y) * 2 ^ (12 * l) + packed_number (sums xs ys)) (length-sums xs ys tails)
    ∙ add_up (2 ^ (12 * length xs)) (packed-sums xs ys tails)
    ∙ ap (λ l. x * 2 ^ (12 * length xs) + packed_number xs + (y * 2 ^ (12 * l) + packed_number ys)) tails
  where
    tails : length xs ≡ length ys
    tails = omega arith

    add_up : (b : ℕ) → packed_number (sums xs ys) ≡ packed_number xs + packed_number ys →
        (x + y) * b + packed_number (sums xs ys) ≡ x * b + packed_number xs + (y * b + packed_number ys)
    add_up b e = omega arith

-- a and b are the numbers of the powers xs and ys, whose sums are powers too
module _ (a b : ℕ) (xs ys : List ℕ) (xs_are : unpacked a ≡ xs) (ys_are : unpacked b ≡ ys)
    (a_low : a < 2 ^ 96) (b_low : b < 2 ^ 96)
    (low : (i : ℕ) → i < 8 → get_or xs i 0 + get_or ys i 0 ≤ 4095) where
  eight_x : length xs ≡ 8
  eight_x = (subst ArePowers xs_are (unpacked-ArePowers a)).eight

  same : length xs ≡ length ys
  same = eight_x ∙ sym (subst ArePowers ys_are (unpacked-ArePowers b)).eight

  eight : length (sums xs ys) ≡ 8
  eight = length-sums xs ys same ∙ eight_x

  are : ArePowers (sums xs ys)
  are = record {
    eight = eight;
    low = λ i d lt. subst (λ s. s ≤ 4095) (sym (sums_at xs ys i same) ∙ get_or_default (sums xs ys) i 0 d lt)
        (low i (omega (arith, eight)));
  }

  whole : packed_number (sums xs ys) ≡ a + b
  whole = packed-sums xs ys same ∙ (λ i. packed_number (sym xs_are i) + packed_number (sym ys_are i))
      ∙ (λ i. packed_unpacked a a_low i + packed_unpacked b b_low i)

  pub sum_fits : a + b < 2 ^ 96
  sum_fits = subst (λ n. n < 2 ^ 96) whole (packed_fits (sums xs ys) are)

  pub sum_at : (i : ℕ) → get_or (unpacked (a + b)) i 0 ≡ get_or xs i 0 + get_or ys i 0
  sum_at i = ap (λ n. get_or (unpacked n) i 0) (sym whole)
      ∙ ap (λ ps. get_or ps i 0) (unpacked_packed (sums xs ys) are) ∙ sums_at xs ys i same
