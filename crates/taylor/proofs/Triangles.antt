-- Rows of binomial numbers, one from the row above it.
--     IsStart m j n row      the first n numbers of row j
use Rattle.std.proofs.Common.{◌≡◌, ℕ, zero, suc, ◌+◌, ◌-◌, ◌%◌, ◌<◌, ◌≤◌, ◌⊎◌, inl, inr, List, [], ◌∷◌, ◌++◌}
use Rattle.std.proofs.Common.{length, get_or, map, refl, sym, ◌∙◌, ap, subst, arith}
use Rattle.std.proofs.Math.Nat.{eq-or-lt_of_le, mod-eq_of_lt, add-mod}
use Rattle.std.proofs.lemmas.List.{get_or_append_left, get_or_at, get_or-map, length-map, length_push, map-append}
use Rattle.std.proofs.lemmas.List.{get_or_past}
use Rattle.ps_model.specs.Shift.{binomial}
use Rattle.ps_model.proofs.Binomials.{binomial-above}
use Rattle.taylor.specs.Binomials.{IsBinomialRow, AreBinomials}

pub record IsStart (m j n : ℕ) (row : List ℕ) : Type 0 where
  pub count : length row ≡ n
  pub number : (i : ℕ) → i < n → get_or row i 0 ≡ binomial j i % m

-- what holds of each element and of one more
pub each_more : {X : Type 0} (P : ℕ → X → Type 0) (xs : List X) (y d : X) (n : ℕ) → length xs ≡ n
    → ((i : ℕ) → i < n → P i (get_or xs i d)) → P n y → (i : ℕ) → i < n + 1 → P i (get_or (xs ++ y ∷ []) i d)
each_more P xs y d n size each last i lt = elim (either i n (omega arith)) [
  | inl same ↦ subst (λ k. P k (get_or (xs ++ y ∷ []) k d)) (sym same)
      (subst (P n) (sym (get_or_at xs y [] d n size)) last)
  | inr before ↦ subst (P i) (sym (get_or_append_left xs (y ∷ []) d i (omega arith))) (each i before)
]
  where
    either : (i n : ℕ) → i ≤ n → (i ≡ n) ⊎ (i < n)
    either i n le = eq-or-lt_of_le le

-- the first number of each row is 1
pub start_one : (m j : ℕ) → 2 ≤ m → IsStart m j 1 (1 ∷ [])
start_one m j two = record { count = refl; number = first }
  where
    first : (i : ℕ) → i < 1 → get_or (1 ∷ []) i 0 ≡ binomial j i % m
    first zero lt = sym (mod-eq_of_lt (omega arith))
    first (suc i) lt = absurd (omega arith)

-- the next number is the sum of two of the row above
pub start_more : (m j i a b x : ℕ) (row next : List ℕ) → IsBinomialRow m (j - 1) row → 1 ≤ i → i < j
    → a ≡ get_or row (i - 1) 0 → b ≡ get_or row i 0 → x ≡ (a + b) % m → IsStart m j i next
    → IsStart m j (i + 1) (next ++ x ∷ [])
start_more m zero i a b x row next above one within of_a of_b is start = absurd (omega arith)
start_more m (suc j) zero a b x row next above one within of_a of_b is start = absurd (omega arith)
start_more m (suc j) (suc i) a b x row next above one within of_a of_b is start = record {
  count = length_push next x ∙ ap (λ n. n + 1) start.count;
  number = each_more (λ i x. x ≡ binomial (suc j) i % m) next x 0 (suc i) start.count start.number
      (is ∙ (λ l. (left l + right l) % m) ∙ sym (add-mod (binomial j i) (binomial j (suc i)) m));
}
  where
    less : (n k : ℕ) → k ≡ suc n - 1 → k ≡ n
    less n k e = omega arith

    left : a ≡ binomial j i % m
    left = of_a ∙ ap (λ k. get_or row k 0) (less i (suc i - 1) refl) ∙ above.number i
        ∙ ap (λ k. binomial k i % m) (less j (suc j - 1) refl)

    right : b ≡ binomial j (suc i) % m
    right = of_b ∙ above.number (suc i) ∙ ap (λ k. binomial k (suc i) % m) (less j (suc j - 1) refl)

binomial-last : (j : ℕ) → binomial j j ≡ 1
binomial-last zero = refl
binomial-last (suc j) = omega (arith, binomial-last j, binomial-above j (suc j) (omega arith))

-- the last number is 1, and past it there is none
pub row_from : (m j n : ℕ) (next : List ℕ) → 2 ≤ m → n ≡ j → IsStart m j n next → IsBinomialRow m j (next ++ 1 ∷ [])
row_from m j n next two all start = record {
  places = size ∙ add_one j;
  number = λ i. elim (either i) [ inl lt ↦ below i lt | inr le ↦ past i le ];
}
  where
    add_one : (j : ℕ) → j + 1 ≡ suc j
    add_one j = omega arith

    size : length (next ++ 1 ∷ []) ≡ j + 1
    size = length_push next 1 ∙ ap (λ n. n + 1) (start.count ∙ all)

    either : (i : ℕ) → (i < n + 1) ⊎ (j < i)
    either i = grind arith

    below : (i : ℕ) → i < n + 1 → get_or (next ++ 1 ∷ []) i 0 ≡ binomial j i % m
    below = each_more (λ i x. x ≡ binomial j i % m) next 1 0 n start.count start.number
        (sym (mod-eq_of_lt (omega arith)) ∙ ap (λ n. n % m) (sym (ap (binomial j) all ∙ binomial-last j)))

    past : (i : ℕ) → j < i → get_or (next ++ 1 ∷ []) i 0 ≡ binomial j i % m
    past i le = get_or_past (next ++ 1 ∷ []) i 0 (omega (arith, size))
        ∙ sym (ap (λ n. n % m) (binomial-above j i le) ∙ mod-eq_of_lt (omega arith))

-- row 0
pub row_zero : (m : ℕ) → 2 ≤ m → IsBinomialRow m 0 (1 ∷ [])
row_zero m two = row_from m 0 0 [] two refl (record { count = refl; number = λ i lt. absurd (omega arith) })

-- one more row
pub rows_more : {X : Type 0} (m n : ℕ) (f : X → List ℕ) (rows all : List X) (next : X) → all ≡ rows ++ next ∷ []
    → AreBinomials m n (map f rows) → IsBinomialRow m n (f next) → AreBinomials m (n + 1) (map f all)
rows_more m n f rows all next is are last = subst (AreBinomials m (n + 1))
    (sym (ap (map f) is ∙ map-append f rows (next ∷ []))) (record {
      count = length_push (map f rows) (f next) ∙ ap (λ n. n + 1) are.count;
      row = each_more (IsBinomialRow m) (map f rows) (f next) [] n are.count are.row last;
    })

-- row j of a table
pub row_of : {X : Type 0} (m n j : ℕ) (f : X → List ℕ) (rows : List X) (r : X) → AreBinomials m n (map f rows) → j < n
    → r ≡ get_or rows j r → IsBinomialRow m j (f r)
row_of m n j f rows r are lt is = subst (IsBinomialRow m j)
    (get_or-map f rows j r [] (omega (arith, are.count, length-map rows f)) ∙ ap f (sym is)) (are.row j lt)

-- no row
pub no_rows : {X : Type 0} (m : ℕ) (f : X → List ℕ) (rows : List X) → rows ≡ [] → AreBinomials m 0 (map f rows)
no_rows m f rows none = record { count = ap (λ l. length (map f l)) none; row = λ j lt. absurd (omega arith) }
