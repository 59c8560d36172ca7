-- Where two lists overlap, one of them read backwards: the numbers outside count for nothing.
use Rattle.std.proofs.Common.{◌≡◌, ℕ, zero, suc, ◌+◌, ◌-◌, ◌*◌, ◌%◌, ◌<◌, ◌≤◌, List, [], length, get_or}
use Rattle.std.proofs.Common.{take, drop, refl, sym, ◌∙◌, ap, subst, length-take, length-drop, arith}
use Rattle.std.proofs.Math.ListN.{get_or-eq_default}
use Rattle.std.proofs.Math.Nat.{mod-mod}
use Rattle.std.proofs.lemmas.List.{get_or-take, get_or-drop}
use Rattle.residue.specs.Products.{sum_below, reversed_dot}
use Rattle.residue.specs.ProductSums.{ProductSumValue, Gains, with_products}
use Rattle.residue.proofs.Arithmetic.{plus}
use Rattle.residue.proofs.Products.{sum_below-same, sum_below-add, sum_below-next, sum_below-zero, crossed}
use Rattle.parts.specs.SeriesRows.{entry, row_products, crossed_entry, Overlap}

module _ (p from to : ℕ) (h : ℕ → ℕ) (before : (i : ℕ) → i < from → i ≤ p → h i ≡ 0)
    (behind : (i : ℕ) → to ≤ i → i ≤ p → h i ≡ 0) where
  -- what stands between counts alone
  pub between : from ≤ to → to ≤ p + 1 → sum_below (to - from) (λ i. h (from + i)) ≡ sum_below (suc p) h
  between le low =
      let first : sum_below from h ≡ 0 = sum_below-zero from h (λ i lt. before i lt (omega arith)) in
      let last : sum_below (suc p - to) (λ i. h (to + i)) ≡ 0 =
      sum_below-zero (suc p - to) (λ i. h (to + i)) (λ i lt. behind (to + i) (omega arith) (omega arith)) in
      let upper : sum_below (suc p) h ≡ sum_below to h + sum_below (suc p - to) (λ i. h (to + i)) =
      ap (λ n. sum_below n h) whole ∙ sum_below-add to (suc p - to) h in
      let lower : sum_below to h ≡ sum_below from h + sum_below (to - from) (λ i. h (from + i)) =
      ap (λ n. sum_below n h) middle ∙ sum_below-add from (to - from) h in omega arith
    where
      whole : suc p ≡ to + (suc p - to)
      whole = omega arith

      middle : to ≡ from + (to - from)
      middle = omega arith

  -- from the end of the overlap on nothing counts
  pub up_to : (i : ℕ) → to ≤ i → i ≤ p + 1 → sum_below i h ≡ sum_below (suc p) h
  up_to i le low =
      let last : sum_below (suc p - i) (λ j. h (i + j)) ≡ 0 =
      sum_below-zero (suc p - i) (λ j. h (i + j)) (λ j lt. behind (i + j) (omega arith) (omega arith)) in
      let upper : sum_below (suc p) h ≡ sum_below i h + sum_below (suc p - i) (λ j. h (i + j)) =
      ap (λ n. sum_below n h) whole ∙ sum_below-add i (suc p - i) h in omega arith
    where
      whole : suc p ≡ i + (suc p - i)
      whole = omega arith

  -- before its start neither
  pub at_start : from ≤ p + 1 → sum_below from h ≡ 0
  at_start le = sum_below-zero from h (λ i lt. before i lt (omega arith))

  pub nowhere : to ≤ from → from ≤ p + 1 → sum_below (suc p) h ≡ 0
  nowhere le low = let a = up_to from le low in let b = at_start low in omega arith

-- numbers of two lists that face each other
module _ (a w : List ℕ) (p from to : ℕ) (lap : Overlap (length a) (length w) p from to) where
  abbrev pub facing : ℕ → ℕ
  facing i = get_or a i 0 * get_or w (p - i) 0

  pub facing_before : (i : ℕ) → i < from → i ≤ p → facing i ≡ 0
  facing_before i lt le = ap (λ n. get_or a i 0 * n) (get_or-eq_default w 0 (lap.before i lt le)) ∙ omega arith

  pub facing_behind : (i : ℕ) → to ≤ i → i ≤ p → facing i ≡ 0
  facing_behind i ge le = ap (λ n. n * get_or w (p - i) 0) (get_or-eq_default a 0 (lap.behind i ge le)) ∙ omega arith

  abbrev pub left_piece : List ℕ
  left_piece = take (to - from) (drop from a)

  abbrev pub right_piece : List ℕ
  right_piece = take (p + 1 - from - (p + 1 - to)) (drop (p + 1 - to) w)

  pub left_long : from < to → length left_piece ≡ to - from
  left_long lt = omega (arith, lap.inside, length-take (to - from) (drop from a), length-drop from a)

  pub right_long : from < to → length right_piece ≡ to - from
  right_long lt = omega (
    arith,
    lap.low,
    lap.high,
    length-take (p + 1 - from - (p + 1 - to)) (drop (p + 1 - to) w),
    length-drop (p + 1 - to) w,
  )

  pub pieces_dot : from < to → reversed_dot left_piece right_piece ≡ sum_below (suc p) facing
  pieces_dot lt = ap (λ n. sum_below n (crossed left_piece right_piece)) (left_long lt) ∙
      sum_below-same (to - from) (crossed left_piece right_piece) (λ i. facing (from + i)) each ∙
      between p from to facing facing_before facing_behind (omega arith) lap.low
    where
      each : (i : ℕ) → i < to - from → crossed left_piece right_piece i ≡ facing (from + i)
      each i k = λ l. (get_or-take (to - from) (drop from a) i 0 k ∙ get_or-drop from a i 0) l *
          (get_or-take (p + 1 - from - (p + 1 - to)) (drop (p + 1 - to) w) (length left_piece - 1 - i) 0
          (let n = left_long lt in let m = lap.low in omega arith) ∙
          get_or-drop (p + 1 - to) w (length left_piece - 1 - i) 0 ∙
          ap (λ n. get_or w n 0) (let n = left_long lt in let m = lap.low in
          let e : p + 1 - to + (length left_piece - 1 - i) ≡ p - (from + i) = omega arith in e)) l

  pub apart : to ≤ from → sum_below (suc p) facing ≡ 0
  apart le = nowhere p from to facing facing_before facing_behind le lap.start

-- sums that gain numbers
pub gains_none : (s : ProductSumValue) (n : ℕ) → n ≡ 0 → Gains s s n
gains_none s n e = record {
  modulus_is = refl;
  residue_is = ap (λ k. k % s.modulus) (let z = e in omega arith);
}

pub gains_products : (s t : ProductSumValue) (a w : List ℕ) (n : ℕ) → t ≡ with_products s a w → reversed_dot a w ≡ n →
    Gains s t n
gains_products s t a w n is dot_is = record {
  modulus_is = ap (λ (x : ProductSumValue). x.modulus) is;
  residue_is = ap (λ (x : ProductSumValue). x.residue % s.modulus) is ∙ mod-mod (s.residue + reversed_dot a w) s.modulus ∙
      ap (λ k. (s.residue + k) % s.modulus) dot_is;
}

pub gains_more : (s t u : ProductSumValue) (m n k : ℕ) → k ≡ m + n → Gains s t m → Gains t u n → Gains s u k
gains_more s t u m n k is h g = record {
  modulus_is = g.modulus_is ∙ h.modulus_is;
  residue_is = (λ i. u.residue % sym h.modulus_is i) ∙ g.residue_is ∙
      (λ i. (t.residue + n) % h.modulus_is i) ∙ plus s.modulus t.residue (s.residue + m) n n h.residue_is refl ∙
      ap (λ j. j % s.modulus) (let e = is in omega arith);
}

-- the next number of a sum
pub gains_next : (s t u : ProductSumValue) (n : ℕ) (f : ℕ → ℕ) → Gains s t (sum_below n f) → Gains t u (f n) →
    Gains s u (sum_below (n + 1) f)
gains_next s t u n f h g = gains_more s t u (sum_below n f) (f n) (sum_below (n + 1) f) (sum_below-next n f) h g

-- the products of two rows that were read
pub gains_rows : (s t : ProductSumValue) (a w : List (List ℕ)) (f p i : ℕ) (xs ys : List ℕ) → get_or a i [] ≡ xs →
    get_or w (f - i) [] ≡ ys → Gains s t (sum_below (suc p) (λ j. get_or xs j 0 * get_or ys (p - j) 0)) →
    Gains s t (row_products a w f p i)
gains_rows s t a w f p i xs ys x_is y_is h = subst (λ (r : List ℕ). Gains s t
    (sum_below (suc p) (λ j. get_or r j 0 * get_or (get_or w (f - i) []) (p - j) 0))) (sym x_is)
    (subst (λ (r : List ℕ). Gains s t (sum_below (suc p) (λ j. get_or xs j 0 * get_or r (p - j) 0))) (sym y_is) h)

-- the rows that face each other
module _ (a w : List (List ℕ)) (f p from to : ℕ) (lap : Overlap (length a) (length w) f from to) where
  pub rows_before : (i : ℕ) → i < from → i ≤ f → row_products a w f p i ≡ 0
  rows_before i lt le = sum_below-zero (suc p) _ (λ j _.
      ap (λ (row : List ℕ). entry a i j * get_or row (p - j) 0) (get_or-eq_default w [] (lap.before i lt le)) ∙
      nought (entry a i j))
    where
      nought : (n : ℕ) → n * 0 ≡ 0
      nought n = omega arith

  pub rows_behind : (i : ℕ) → to ≤ i → i ≤ f → row_products a w f p i ≡ 0
  rows_behind i ge le = sum_below-zero (suc p) _ (λ j _.
      ap (λ (row : List ℕ). get_or row j 0 * entry w (f - i) (p - j)) (get_or-eq_default a [] (lap.behind i ge le)) ∙
      nought (entry w (f - i) (p - j)))
    where
      nought : (n : ℕ) → 0 * n ≡ 0
      nought n = omega arith

  pub crossed-start : sum_below from (row_products a w f p) ≡ 0
  crossed-start = at_start f from to (row_products a w f p) rows_before rows_behind lap.start

  pub crossed-end : (i : ℕ) → to ≤ i → i ≤ f + 1 → sum_below i (row_products a w f p) ≡ crossed_entry a w f p
  crossed-end i le low = up_to f from to (row_products a w f p) rows_before rows_behind i le low
