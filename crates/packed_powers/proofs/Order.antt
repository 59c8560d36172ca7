-- Packed numbers stand beside each other as the lists of powers do.
use Rattle.std.proofs.Common.{◌≡◌, ℕ, suc, ◌+◌, ◌*◌, ◌^◌, ◌<◌, ◌≤◌, List, [], ◌∷◌, length, All, nat_eq, refl, sym}
use Rattle.std.proofs.Common.{inl, inr, Less, Equal, Greater, ap, subst, ◌∙◌, arith}
use Rattle.std.specs.Ordering.{nat_cmp, ordering_then}
use Rattle.std.specs.Cmp.{nat_cmp_is}
use Rattle.std.specs.Cmp.Lexicographic.{pointwise, slice_cmp, bytes_decides}
use Rattle.std.proofs.lemmas.Bool.{cases_order}
use Rattle.std.proofs.lemmas.Bool.Decides.{same_from_decides, Decides-eqb, Decides-like}
use Rattle.std.proofs.lemmas.Nat.{row_fits}
use Rattle.packed_powers.specs.Packed.{packed_number, unpacked}
use Rattle.packed_powers.specs.PackedLaws.{packed_unpacked}
use Rattle.packed_powers.proofs.Digits.{packed-bound, unpacked-ArePowers}

-- the same number added to both
shifted : (a x y : ℕ) → nat_cmp (a + x) (a + y) ≡ nat_cmp x y
shifted a x y = elim (cases_order x y) [
  | inl e ↦ sym (nat_cmp_is (a + x) (a + y) Equal (omega arith)) ∙ nat_cmp_is x y Equal e
  | inr d ↦ elim d [
    | inl l ↦ sym (nat_cmp_is (a + x) (a + y) Less (omega arith)) ∙ nat_cmp_is x y Less l
    | inr g ↦ sym (nat_cmp_is (a + x) (a + y) Greater (omega arith)) ∙ nat_cmp_is x y Greater g
  ]
]

-- the highest digit decides, and then the rest below it
by_digit : (x y a b m : ℕ) → a < m → b < m →
    nat_cmp (x * m + a) (y * m + b) ≡ ordering_then (nat_cmp x y) (nat_cmp a b)
by_digit x y a b m a_low b_low = elim (cases_order x y) [
  | inl e ↦ ap (λ z. nat_cmp (x * m + a) (z * m + b)) (sym e) ∙ shifted (x * m) a b
      ∙ ap (λ o. ordering_then o (nat_cmp a b)) (nat_cmp_is x y Equal e)
  | inr d ↦ elim d [
    | inl l ↦ sym (nat_cmp_is (x * m + a) (y * m + b) Less (omega (arith, row_fits x m y m l (omega arith))))
        ∙ ap (λ o. ordering_then o (nat_cmp a b)) (nat_cmp_is x y Less l)
    | inr g ↦ sym (nat_cmp_is (x * m + a) (y * m + b) Greater (omega (arith, row_fits y m x m g (omega arith))))
        ∙ ap (λ o. ordering_then o (nat_cmp a b)) (nat_cmp_is x y Greater g)
  ]
]

packed_cmp : (xs ys : List ℕ) → length xs ≡ length ys → All (λ p. p ≤ 4095) xs → All (λ p. p ≤ 4095) ys →
    nat_cmp (packed_number xs) (packed_number ys) ≡ slice_cmp nat_cmp xs ys
packed_cmp [] [] same low_x low_y = refl
packed_cmp [] (y ∷ ys) same low_x low_y = absurd (omega arith)
packed_cmp (x ∷ xs) [] same low_x low_y = absurd (omega arith)
packed_cmp (x ∷ xs) (y ∷ ys) same low_x low_y =
    ap (λ l. nat_cmp (x * 2 ^ (12 * length xs) + packed_number xs) (y * 2 ^ (12 * l) + packed_number ys)) (sym tails)
    ∙ by_digit x y (packed_number xs) (packed_number ys) (2 ^ (12 * length xs)) (packed-bound xs rest_x) below_y
    ∙ ap (ordering_then (nat_cmp x y)) (packed_cmp xs ys tails rest_x rest_y)
  where
    tails : length xs ≡ length ys
    tails = omega arith

    rest_x : All (λ p. p ≤ 4095) xs
    rest_x i d lt = low_x (suc i) d (omega arith)

    rest_y : All (λ p. p ≤ 4095) ys
    rest_y i d lt = low_y (suc i) d (omega arith)

    below_y : packed_number ys < 2 ^ (12 * length xs)
    below_y = subst (λ l. packed_number ys < 2 ^ (12 * l)) (sym tails) (packed-bound ys rest_y)

module _ (a b : ℕ) (a_low : a < 2 ^ 96) (b_low : b < 2 ^ 96) where
  pub unpacked_cmp : nat_cmp a b ≡ slice_cmp nat_cmp (unpacked a) (unpacked b)
  unpacked_cmp = (λ i. nat_cmp (sym (packed_unpacked a a_low) i) (sym (packed_unpacked b b_low) i))
      ∙ packed_cmp (unpacked a) (unpacked b) same (unpacked-ArePowers a).low (unpacked-ArePowers b).low
    where
      same : length (unpacked a) ≡ length (unpacked b)
      same = (unpacked-ArePowers a).eight ∙ sym (unpacked-ArePowers b).eight

  same_number : unpacked a ≡ unpacked b → a ≡ b
  same_number e = sym (packed_unpacked a a_low) ∙ ap packed_number e ∙ packed_unpacked b b_low

  pub unpacked_eq : nat_eq a b ≡ pointwise nat_eq (unpacked a) (unpacked b)
  unpacked_eq = same_from_decides (nat_eq a b) (pointwise nat_eq (unpacked a) (unpacked b))
      (Decides-like (nat_eq a b) (ap unpacked) same_number (Decides-eqb a b))
      (bytes_decides (unpacked a) (unpacked b))
