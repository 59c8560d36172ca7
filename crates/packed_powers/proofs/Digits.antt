-- Powers and the digits of the number that keeps them.
use Rattle.std.proofs.Common.{◌≡◌, ℕ, zero, suc, ◌+◌, ◌-◌, ◌*◌, ◌/◌, ◌%◌, ◌^◌, ◌<◌, ◌≤◌, List, [], ◌∷◌, ◌++◌, length}
use Rattle.std.proofs.Common.{get_or, All, take, refl, sym, ap, subst, ◌∙◌, add-one, length-take-le, arith}
use Rattle.std.proofs.Math.Nat.{mod-eq_of_lt, mul-add-mod_self_right, mul_assoc, pow-le-pow_right}
use Rattle.std.proofs.lemmas.List.{length_push, take_all, take_more}
use Rattle.std.proofs.lemmas.List.Elements.{All-take}
use Rattle.std.proofs.lemmas.Nat.{pow-add, field_of, div-mul-add, mul-add-lt}
use Rattle.packed_powers.specs.Packed.{packed_number, digits, unpacked, ArePowers}
use Rattle.packed_powers.specs.PackedLaws.{length-digits}

-- a power more takes 12 bits more
one_more : (k : ℕ) → 2 ^ (12 * suc k) ≡ 2 ^ 12 * 2 ^ (12 * k)
one_more k = ap (λ e. 2 ^ e) more ∙ pow-add 2 12 (12 * k)
  where
    more : 12 * suc k ≡ 12 + 12 * k
    more = omega arith

digits-low : (k n : ℕ) → All (λ p. p ≤ 4095) (digits k n)
digits-low zero n i d lt = absurd (omega arith)
digits-low (suc k) n zero d lt = omega arith
digits-low (suc k) n (suc i) d lt = digits-low k n i d (omega arith)

-- the highest digit comes first
digit_at : (k n i : ℕ) → i < k → get_or (digits k n) i 0 ≡ n / 2 ^ (12 * (k - 1 - i)) % 2 ^ 12
digit_at zero n i lt = absurd (omega arith)
digit_at (suc k) n zero lt = ap (λ e. n / 2 ^ (12 * e) % 2 ^ 12) last
  where
    last : k ≡ suc k - 1 - 0
    last = omega arith
digit_at (suc k) n (suc i) lt =
    digit_at k n i (omega arith) ∙ ap (λ e. n / 2 ^ (12 * e) % 2 ^ 12) same
  where
    same : k - 1 - i ≡ suc k - 1 - suc i
    same = omega arith

-- the number of k powers has 12 * k bits at most
pub packed-bound : (ps : List ℕ) → All (λ p. p ≤ 4095) ps → packed_number ps < 2 ^ (12 * length ps)
packed-bound [] low = omega arith
packed-bound (p ∷ ps) low =
    omega (
      arith,
      one_more (length ps),
      mul-add-lt p (2 ^ (12 * length ps)) (packed_number ps) (2 ^ 12) (omega
          (arith, low 0 0 (omega arith))) (packed-bound ps (λ i d lt. low (suc i) d (omega arith))),
    )

-- what stands above the last k digits doesn't count
digits-above : (k q n : ℕ) → digits k (q * 2 ^ (12 * k) + n) ≡ digits k n
digits-above zero q n = refl
digits-above (suc k) q n = λ i. head i ∷ (ap (digits k) moved ∙ digits-above k (q * 2 ^ 12) n) i
  where
    more : 12 * suc k ≡ 12 + 12 * k
    more = omega arith

    head : (q * 2 ^ (12 * suc k) + n) / 2 ^ (12 * k) % 2 ^ 12 ≡ n / 2 ^ (12 * k) % 2 ^ 12
    head = ap (λ e. (q * 2 ^ e + n) / 2 ^ (12 * k) % 2 ^ 12) more
        ∙ sym (field_of (q * 2 ^ (12 + 12 * k) + n) 12 (12 * k))
        ∙ ap (λ r. r / 2 ^ (12 * k)) (mul-add-mod_self_right q (2 ^ (12 + 12 * k)) n)
        ∙ field_of n 12 (12 * k)

    moved : q * 2 ^ (12 * suc k) + n ≡ q * 2 ^ 12 * 2 ^ (12 * k) + n
    moved = ap (λ m. q * m + n) (one_more k) ∙ omega (arith, mul_assoc q (2 ^ 12) (2 ^ (12 * k)))

-- the digits are the powers that were packed
digits_packed : (ps : List ℕ) → All (λ p. p ≤ 4095) ps → digits (length ps) (packed_number ps) ≡ ps
digits_packed [] low = refl
digits_packed (p ∷ ps) low =
    λ i. head i ∷ (digits-above (length ps) p (packed_number ps) ∙ digits_packed ps rest_low) i
  where
    rest_low : All (λ p. p ≤ 4095) ps
    rest_low i d lt = low (suc i) d (omega arith)

    p_low : p < 2 ^ 12
    p_low = omega (arith, low 0 0 (omega arith))

    head : (p * 2 ^ (12 * length ps) + packed_number ps) / 2 ^ (12 * length ps) % 2 ^ 12 ≡ p
    head = ap (λ r. r % 2 ^ 12) (div-mul-add p (2 ^ (12 * length ps)) (packed_number ps) (packed-bound ps rest_low))
        ∙ mod-eq_of_lt p_low

-- one power more behind the others
packed-more : (ps : List ℕ) (p : ℕ) → packed_number (ps ++ p ∷ []) ≡ packed_number ps * 2 ^ 12 + p
packed-more [] p = omega arith
packed-more (x ∷ ps) p = omega (
  arith,
  packed-more ps p,
  longer,
  ap (λ m. x * m) (one_more (length ps)),
  mul_assoc x (2 ^ 12) (2 ^ (12 * length ps)),
)
  where
    longer : x * 2 ^ (12 * length (ps ++ p ∷ [])) ≡ x * 2 ^ (12 * suc (length ps))
    longer = ap (λ l. x * 2 ^ (12 * l)) (length_push ps p ∙ add-one (length ps))

pub unpacked_packed : (ps : List ℕ) → ArePowers ps → unpacked (packed_number ps) ≡ ps
unfolding unpacked
unpacked_packed ps are = ap (λ k. digits k (packed_number ps)) (sym are.eight) ∙ digits_packed ps are.low

pub unpacked-ArePowers : (n : ℕ) → ArePowers (unpacked n)
unfolding unpacked
unpacked-ArePowers n = record { eight = length-digits 8 n; low = digits-low 8 n }

pub power_at : (n i : ℕ) → i < 8 → get_or (unpacked n) i 0 ≡ n / 2 ^ (12 * (7 - i)) % 2 ^ 12
unfolding unpacked
power_at n i lt = digit_at 8 n i lt

pub packed_fits : (ps : List ℕ) → ArePowers ps → packed_number ps < 2 ^ 96
packed_fits ps are = subst (λ k. packed_number ps < 2 ^ (12 * k)) are.eight (packed-bound ps are.low)

-- the number of the first i powers, as they are packed one by one
module _ (ps : List ℕ) (are : ArePowers ps) where
  taken_below : (i : ℕ) → i < 8 → packed_number (take i ps) < 2 ^ 84
  taken_below i lt = omega (arith, below, pow-le-pow_right two {j = 84} in_bits)
    where
      two : 0 < 2
      two = omega arith

      in_bits : 12 * i ≤ 84
      in_bits = omega arith

      below : packed_number (take i ps) < 2 ^ (12 * i)
      below = subst (λ l. packed_number (take i ps) < 2 ^ (12 * l)) (length-take-le i ps (omega (arith, are.eight)))
          (packed-bound (take i ps) (All-take (λ p. p ≤ 4095) i ps are.low))

  pub packed_next : (i n p : ℕ) → i < 8 → n ≡ packed_number (take i ps) → p ≡ get_or ps i 0 →
      n * 2 ^ 12 % 2 ^ 128 + p ≡ packed_number (take (i + 1) ps)
  packed_next i n p lt n_is p_is = ap (λ r. r + p) (mod-eq_of_lt fits)
      ∙ (λ j. n_is j * 2 ^ 12 + p_is j)
      ∙ sym (packed-more (take i ps) (get_or ps i 0))
      ∙ ap packed_number (sym (take_more ps i 0 lt_length))
    where
      fits : n * 2 ^ 12 < 2 ^ 128
      fits = omega (arith, taken_below i lt)

      lt_length : i < length ps
      lt_length = omega (arith, are.eight)

  module _ (i n : ℕ) (all : 8 ≤ i) (n_is : n ≡ packed_number (take i ps)) where
    whole : n ≡ packed_number ps
    whole = n_is ∙ ap packed_number (take_all i ps (omega (arith, are.eight)))

    pub all_fit : n < 2 ^ 96
    all_fit = subst (λ m. m < 2 ^ 96) (sym whole) (packed_fits ps are)

    pub all_packed : unpacked n ≡ ps
    all_packed = ap unpacked whole ∙ unpacked_packed ps are
