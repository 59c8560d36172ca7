-- Sums of products, and pieces of them.
use Rattle.std.proofs.Common.{◌≡◌, ℕ, zero, suc, ◌+◌, ◌-◌, ◌*◌, ◌<◌, ◌≤◌, List, length, get_or, All, refl, sym, ◌∙◌}
use Rattle.std.proofs.Common.{◌/◌, ◌%◌, ◌^◌, ap, take, drop, add-one, length-take, length-drop, arith}
use Rattle.std.proofs.Math.Nat.{add-zero, add-suc, mod-eq_of_lt}
use Rattle.std.proofs.lemmas.List.{get_or-take, get_or-drop}
use Rattle.std.proofs.lemmas.Nat.{mul-le, mul-lt}
use Rattle.residue.specs.Products.{sum_below, reversed_dot}

pub sum_below-same : (n : ℕ) (f g : ℕ → ℕ) → ((i : ℕ) → i < n → f i ≡ g i) → sum_below n f ≡ sum_below n g
sum_below-same zero f g h = refl
sum_below-same (suc n) f g h = λ j. sum_below-same n f g (λ i lt. h i (omega arith)) j + h n (omega arith) j

pub sum_below-next : (n : ℕ) (f : ℕ → ℕ) → sum_below (n + 1) f ≡ sum_below n f + f n
sum_below-next n f = ap (λ k. sum_below k f) (add-one n)

pub sum_below-add : (m n : ℕ) (f : ℕ → ℕ) → sum_below (m + n) f ≡ sum_below m f + sum_below n (λ i. f (m + i))
sum_below-add m zero f = ap (λ k. sum_below k f) (add-zero m) ∙ omega arith
sum_below-add m (suc n) f = ap (λ k. sum_below k f) (add-suc m n) ∙ omega (arith, sum_below-add m n f)

pub sum_below-le : (m n : ℕ) (f : ℕ → ℕ) → m ≤ n → sum_below m f ≤ sum_below n f
sum_below-le m n f le = omega (arith, sum_below-add m (n - m) f, ap (λ k. sum_below k f) whole)
  where
    whole : m + (n - m) ≡ n
    whole = omega arith

pub sum_below-zero : (n : ℕ) (f : ℕ → ℕ) → ((i : ℕ) → i < n → f i ≡ 0) → sum_below n f ≡ 0
sum_below-zero zero f h = refl
sum_below-zero (suc n) f h = omega (arith, sum_below-zero n f (λ i lt. h i (omega arith)), h n (omega arith))

pub sum_below-bound : (n b : ℕ) (f : ℕ → ℕ) → ((i : ℕ) → i < n → f i ≤ b) → sum_below n f ≤ n * b
sum_below-bound zero b f h = omega arith
sum_below-bound (suc n) b f h =
    omega (arith, sum_below-bound n b f (λ i lt. h i (omega arith)), h n (omega arith))

-- a term of the sum
abbrev pub crossed : List ℕ → List ℕ → ℕ → ℕ
crossed a w i = get_or a i 0 * get_or w (length a - 1 - i) 0

module _ (a w : List ℕ) (same : length a ≡ length w) where
  pub crossed_bound : (m : ℕ) → All (λ x. x < m) a → All (λ x. x < m) w → (i : ℕ) → i < length a →
      crossed a w i ≤ (m - 1) * (m - 1)
  crossed_bound m h k i lt = let p = h i 0 lt in let q = k (length a - 1 - i) 0 (omega arith) in
      mul-le _ _ (m - 1) (m - 1) (omega arith) (omega arith)

  pub dot_bound : (m : ℕ) → All (λ x. x < m) a → All (λ x. x < m) w →
      reversed_dot a w ≤ length a * ((m - 1) * (m - 1))
  dot_bound m h k = sum_below-bound (length a) ((m - 1) * (m - 1)) (crossed a w) (crossed_bound m h k)

  -- the products of a piece x of a and of the piece y of w that faces it
  pub piece : (i k : ℕ) (x y : List ℕ) → i + k ≤ length a → length x ≡ k →
      ((j : ℕ) → j < k → get_or x j 0 ≡ get_or a (i + j) 0) →
      ((j : ℕ) → j < k → get_or y j 0 ≡ get_or w (length a - i - k + j) 0) →
      sum_below (i + k) (crossed a w) ≡ sum_below i (crossed a w) + reversed_dot x y
  piece i k x y fits long x_is y_is = sum_below-add i k (crossed a w) ∙
      ap (λ n. sum_below i (crossed a w) + n)
      (sum_below-same k (λ j. crossed a w (i + j)) (crossed x y) (λ j lt. sym (each j lt)) ∙
      ap (λ n. sum_below n (crossed x y)) (sym long))
    where
      back : (j : ℕ) → j < k → length a - i - k + (length x - 1 - j) ≡ length a - 1 - (i + j)
      back j lt = omega arith

      each : (j : ℕ) → j < k → crossed x y j ≡ crossed a w (i + j)
      each j lt = λ l. x_is j lt l * (y_is (length x - 1 - j) (omega arith) ∙ ap (λ n. get_or w n 0) (back j lt)) l

-- the product of two residues fits
pub product_low : (x y : ℕ) → x < 2 ^ 63 → y < 2 ^ 63 → x * y < 2 ^ 126
product_low x y h k = mul-lt x y (2 ^ 63) (2 ^ 63) h k

-- the sum so far and a product fit one word, as the whole does
pub one_word_fits : (a w : List ℕ) → length a ≡ length w → (sum total i : ℕ) → All (λ x. x < 2 ^ 32) a →
    All (λ x. x < 2 ^ 32) w → i < length a → total ≡ sum + sum_below i (crossed a w) →
    sum + reversed_dot a w < 2 ^ 64 →
    total + get_or a i 0 % 2 ^ 32 * (get_or w (length a - 1 - i) 0 % 2 ^ 32) < 2 ^ 64
one_word_fits a w same sum total i h k lt is room =
    let p : get_or a i 0 % 2 ^ 32 ≡ get_or a i 0 = mod-eq_of_lt (h i 0 lt) in
    let q : get_or w (length a - 1 - i) 0 % 2 ^ 32 ≡ get_or w (length a - 1 - i) 0 =
    mod-eq_of_lt (k (length a - 1 - i) 0 (omega arith)) in
    let both : get_or a i 0 % 2 ^ 32 * (get_or w (length a - 1 - i) 0 % 2 ^ 32) ≡ crossed a w i =
    λ l. p l * q l in
    omega (arith, is, room, both, sum_below-le (suc i) (length a) (crossed a w) (omega arith))

-- pieces of four
piece_at : (xs : List ℕ) (i k j : ℕ) → j < k → get_or (take k (drop i xs)) j 0 ≡ get_or xs (i + j) 0
piece_at xs i k j lt = get_or-take k (drop i xs) j 0 lt ∙ get_or-drop i xs j 0

module _ (a w : List ℕ) (same : length a ≡ length w) where
  pub fours : (i : ℕ) → i + 4 ≤ length a → sum_below (i + 4) (crossed a w) ≡ sum_below i (crossed a w) +
      reversed_dot (take (i + 4 - i) (drop i a)) (take (length a - i - (length a - i - 4)) (drop (length a - i - 4) w))
  fours i le = piece a w same i 4 (take (i + 4 - i) (drop i a))
      (take (length a - i - (length a - i - 4)) (drop (length a - i - 4) w)) le
      (omega (arith, length-take (i + 4 - i) (drop i a), length-drop i a))
      (λ j lt. piece_at a i (i + 4 - i) j (omega arith))
      (λ j lt. piece_at w (length a - i - 4) (length a - i - (length a - i - 4)) j (omega arith))

  -- the products that fours leave
  pub rest_of_fours : reversed_dot a w ≡ sum_below (length a / 4 * 4) (crossed a w) +
      reversed_dot (take (length a - length a / 4 * 4) (drop (length a / 4 * 4) a))
      (take (length a - length a / 4 * 4) w)
  rest_of_fours = ap (λ n. sum_below n (crossed a w)) whole ∙
      piece a w same (length a / 4 * 4) (length a - length a / 4 * 4)
      (take (length a - length a / 4 * 4) (drop (length a / 4 * 4) a)) (take (length a - length a / 4 * 4) w)
      (omega arith)
      (omega (
        arith,
        length-take (length a - length a / 4 * 4) (drop (length a / 4 * 4) a),
        length-drop (length a / 4 * 4) a,
      ))
      (λ j lt. piece_at a (length a / 4 * 4) (length a - length a / 4 * 4) j lt)
      (λ j lt. get_or-take (length a - length a / 4 * 4) w j 0 lt ∙ ap (λ n. get_or w n 0) (start j))
    where
      whole : length a ≡ length a / 4 * 4 + (length a - length a / 4 * 4)
      whole = omega arith

      start : (j : ℕ) → j ≡ length a - length a / 4 * 4 - (length a - length a / 4 * 4) + j
      start j = omega arith

-- four products
pub four : (x y : List ℕ) → length x ≡ 4 → reversed_dot x y ≡ get_or x 0 0 * get_or y 3 0 +
    get_or x 1 0 * get_or y 2 0 + get_or x 2 0 * get_or y 1 0 + get_or x 3 0 * get_or y 0 0
four x y e = ap (λ n. sum_below n (λ i. get_or x i 0 * get_or y (n - 1 - i) 0)) e ∙ omega arith
