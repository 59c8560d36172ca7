-- The number that keeps powers, power by power.
use Rattle.std.proofs.Common.{◌≡◌, ℕ, zero, suc, ◌+◌, ◌-◌, ◌*◌, ◌^◌, List, [], ◌∷◌, length, get_or, refl, sym, ◌∙◌}
use Rattle.std.proofs.Common.{ap, arith}
use Rattle.packed_powers.specs.Packed.{packed_number}
use Rattle.residue.specs.Products.{sum_below}
use Rattle.residue.proofs.Products.{sum_below-same}

first_apart : (n : ℕ) (f : ℕ → ℕ) → sum_below (suc n) f ≡ f 0 + sum_below n (λ i. f (suc i))
first_apart zero f = omega arith
first_apart (suc n) f = omega (arith, first_apart n f)

packed_sum : (xs : List ℕ) →
    packed_number xs ≡ sum_below (length xs) (λ i. get_or xs i 0 * 2 ^ (12 * (length xs - suc i)))
packed_sum [] = refl
packed_sum (x ∷ xs) = ap (λ s. x * 2 ^ (12 * length xs) + s) (packed_sum xs
    ∙ sum_below-same (length xs) _ _ (λ i lt. ap (λ e. get_or xs i 0 * 2 ^ (12 * e)) (later i)))
    ∙ ap (λ e. x * 2 ^ (12 * e)
    + sum_below (length xs) (λ i. get_or xs i 0 * 2 ^ (12 * (suc (length xs) - suc (suc i))))) first
    ∙ sym (first_apart (length xs) (λ i. get_or (x ∷ xs) i 0 * 2 ^ (12 * (suc (length xs) - suc i))))
  where
    later : (i : ℕ) → length xs - suc i ≡ suc (length xs) - suc (suc i)
    later i = omega arith

    first : length xs ≡ suc (length xs) - suc 0
    first = omega arith

pub packed_is : (xs : List ℕ) → length xs ≡ 8 →
    packed_number xs ≡ sum_below 8 (λ i. get_or xs i 0 * 2 ^ (12 * (7 - i)))
packed_is xs eight = packed_sum xs
    ∙ ap (λ n. sum_below n (λ i. get_or xs i 0 * 2 ^ (12 * (n - suc i)))) eight
    ∙ sum_below-same 8 _ _ (λ i lt. ap (λ e. get_or xs i 0 * 2 ^ (12 * e)) (one_less i))
  where
    one_less : (i : ℕ) → 8 - suc i ≡ 7 - i
    one_less i = omega arith
