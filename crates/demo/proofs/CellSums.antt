-- Sums over the cells of a table: what is in a list, cell by cell.
use Rattle.std.proofs.Common.{◌≡◌, ℕ, zero, suc, ◌+◌, ◌<◌, ◌≤◌, Bool, true, false, cond, ◌&&◌, inl, inr, List, []}
use Rattle.std.proofs.Common.{◌∷◌, length, map, refl, sym, ◌∙◌, ap, arith}
use Rattle.std.specs.Prelude.{◌==◌, sum}
use Rattle.std.specs.List.{All, filter}
use Rattle.std.proofs.lemmas.Bool.{cases_lt, eq-eqb, ne_eqb}
use Rattle.std.proofs.lemmas.List.Sums.{sum_by-cons}
use Rattle.demo.specs.Counts.{sum_below}

pub sum_below-same : (n : ℕ) (f g : ℕ → ℕ) → ((j : ℕ) → j < n → f j ≡ g j) → sum_below n f ≡ sum_below n g
sum_below-same zero f g same = refl
sum_below-same (suc n) f g same = λ i. sum_below-same n f g (λ j lt. same j (omega arith)) i + same n (omega arith) i

sum_below-none : (n : ℕ) → sum_below n (λ j. 0) ≡ 0
sum_below-none zero = refl
sum_below-none (suc n) = let none = sum_below-none n in omega arith

sum_below-plus : (n : ℕ) (f g : ℕ → ℕ) → sum_below n (λ j. f j + g j) ≡ sum_below n f + sum_below n g
sum_below-plus zero f g = refl
sum_below-plus (suc n) f g = grouped _ _ _ (f n) (g n) (sum_below-plus n f g)
  where
    grouped : (a b c x y : ℕ) → a ≡ b + c → a + (x + y) ≡ b + x + (c + y)
    grouped a b c x y is = omega arith

no_cell : (n k v : ℕ) → n ≤ k → sum_below n (λ j. cond (k == j) v 0) ≡ 0
no_cell zero k v le = refl
no_cell (suc n) k v le = (λ i. no_cell n k v (omega arith) i + cond (ne_eqb k n (λ e. omega arith) i) v 0)

pub one_of_row : (n k v : ℕ) → k < n → sum_below n (λ j. cond (k == j) v 0) ≡ v
one_of_row zero k v lt = absurd (omega arith)
one_of_row (suc n) k v lt = elim (cases_lt k n) [
  | inl low ↦ (λ i. one_of_row n k v low i + cond (ne_eqb k n (λ e. omega arith) i) v 0) ∙ nothing_more v
  | inr high ↦ (λ i. no_cell n k v high i + cond (eq-eqb k n (last high) i) v 0) ∙ nothing_before v
]
  where
    nothing_before : (v : ℕ) → 0 + v ≡ v
    nothing_before v = omega arith

    nothing_more : (v : ℕ) → v + 0 ≡ v
    nothing_more v = omega arith

    last : n ≤ k → k ≡ n
    last high = omega arith

-- a table with one cell
one_of_table : (n m k r v : ℕ) → k < n → r < m
    → sum_below n (λ j. sum_below m (λ s. cond ((k == j) && (r == s)) v 0)) ≡ v
one_of_table n m k r v low low' =
    sum_below-same n _ (λ j. cond (k == j) v 0) (λ j lt. row (k == j)) ∙ one_of_row n k v low
  where
    row : (b : Bool) → sum_below m (λ s. cond (b && (r == s)) v 0) ≡ cond b v 0
    row true = one_of_row m r v low'
    row false = sum_below-none m

-- what the coefficients weigh
abbrev pub weight : {K : Type 0} → (ℕ → ℕ) → List (K × ℕ) → ℕ
weight w [] = 0
weight w (e ∷ es) = w e.1 + weight w es

pub weight-number : {K : Type 0} (es : List (K × ℕ)) → weight (λ c. 1) es ≡ length es
weight-number [] = refl
weight-number (e ∷ es) = one_more _ _ (weight-number es)
  where
    one_more : (a b : ℕ) → a ≡ b → 1 + a ≡ suc b
    one_more a b is = omega arith

pub weight-total : {K : Type 0} (es : List (K × ℕ)) → weight (λ c. c) es ≡ sum (map (λ t. t.1) es)
weight-total [] = refl
weight-total (e ∷ es) = ap (λ n. e.1 + n) (weight-total es) ∙ sym (sum_by-cons (λ x. x) e.1 (map (λ t. t.1) es))

-- it is what their list weighs
abbrev of_list : (ℕ → ℕ) → List ℕ → ℕ
of_list w [] = 0
of_list w (c ∷ cs) = w c + of_list w cs

weight-listed : {K : Type 0} (w : ℕ → ℕ) (es : List (K × ℕ)) → weight w es ≡ of_list w (map (λ t. t.1) es)
weight-listed w [] = refl
weight-listed w (e ∷ es) = ap (λ n. w e.1 + n) (weight-listed w es)

pub weight-same : {K L : Type 0} (w : ℕ → ℕ) (es : List (K × ℕ)) (fs : List (L × ℕ))
    → map (λ t. t.1) es ≡ map (λ t. t.1) fs → weight w es ≡ weight w fs
weight-same w es fs same = weight-listed w es ∙ ap (of_list w) same ∙ sym (weight-listed w fs)

module _ {K : Type 0} (w : ℕ → ℕ) (row column : K → ℕ) (n m : ℕ) where
  -- what is in one cell
  abbrev pub in_cell : ℕ → ℕ → List (K × ℕ) → ℕ
  in_cell j s es = weight w (filter (λ e. (row e.0 == j) && (column e.0 == s)) es)

  one_entry : (b : Bool) (e : K × ℕ) (es : List (K × ℕ)) → weight w (cond b (e ∷ es) es)
      ≡ cond b (w e.1) 0 + weight w es
  one_entry true e es = refl
  one_entry false e es = sym (nothing (weight w es))
    where
      nothing : (k : ℕ) → 0 + k ≡ k
      nothing k = omega arith

  -- a list is what its cells have
  pub cells_are : (es : List (K × ℕ)) → All (λ e. row e.0 < n) es → All (λ e. column e.0 < m) es
      → sum_below n (λ j. sum_below m (λ s. in_cell j s es)) ≡ weight w es
  cells_are [] low low' = sum_below-same n _ (λ j. 0) (λ j lt. sum_below-none m) ∙ sum_below-none n
  cells_are (e ∷ es) low low' =
      sum_below-same n _ (λ j. first j + sum_below m (λ s. in_cell j s es)) (λ j lt.
      sum_below-same m _ (λ s. cond ((row e.0 == j) && (column e.0 == s)) (w e.1) 0 + in_cell j s es)
      (λ s lt'. one_entry ((row e.0 == j) && (column e.0 == s)) e
      (filter (λ e. (row e.0 == j) && (column e.0 == s)) es))
      ∙ sum_below-plus m (λ s. cond ((row e.0 == j) && (column e.0 == s)) (w e.1) 0) (λ s. in_cell j s es))
      ∙ sum_below-plus n first (λ j. sum_below m (λ s. in_cell j s es))
      ∙ (λ i. one_of_table n m (row e.0) (column e.0) (w e.1) (low 0 e (omega arith)) (low' 0 e (omega arith)) i
      + cells_are es (λ k d lt. low (suc k) d (omega arith)) (λ k d lt. low' (suc k) d (omega arith)) i)
    where
      first : ℕ → ℕ
      first j = sum_below m (λ s. cond ((row e.0 == j) && (column e.0 == s)) (w e.1) 0)
