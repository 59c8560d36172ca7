-- Rows of numbers that are pushed one by one, and the row of a product with Y + c.
use Rattle.std.proofs.Common.{◌≡◌, ℕ, suc, ◌+◌, ◌*◌, ◌%◌, ◌<◌, ◌≤◌, List, [], ◌∷◌, ◌++◌, length, get_or}
use Rattle.std.proofs.Common.{sym, ◌∙◌, ap, inl, inr, arith, below_more}
use Rattle.std.proofs.Math.Nat.{mod-mod, mod-eq_of_lt}
use Rattle.std.proofs.lemmas.Bool.{cases_lt}
use Rattle.std.proofs.lemmas.List.{get_or_append_left, get_or_push, get_or_past, length-append}
use Rattle.ps_model.proofs.Coefficients.{plus-mod}

-- one more number
pub pushed : (xs : List ℕ) (v n : ℕ) (f : ℕ → ℕ) → length xs ≡ n → ((p : ℕ) → p < n → get_or xs p 0 ≡ f p) → v ≡ f n
    → (p : ℕ) → p < n + 1 → get_or (xs ++ v ∷ []) p 0 ≡ f p
pushed xs v n f len below here = below_more (λ p. get_or (xs ++ v ∷ []) p 0 ≡ f p) n
    (λ p lt. get_or_append_left xs (v ∷ []) 0 p (inside p lt) ∙ below p lt)
    (get_or_push xs v 0 n len ∙ here)
  where
    inside : (p : ℕ) → p < n → p < length xs
    inside p lt = omega arith

-- what holds up to a bound, and past it
pub everywhere : (P : ℕ → Type 0) (n : ℕ) → ((p : ℕ) → p < n → P p) → ((p : ℕ) → n ≤ p → P p) → (p : ℕ) → P p
everywhere P n below above p = elim (cases_lt p n) [ inl lt ↦ below p lt | inr le ↦ above p le ]

-- the number at p of the product with Y + c
abbrev pub next_number : ℕ → ℕ → List ℕ → ℕ → ℕ
next_number m c xs p = (get_or (0 ∷ xs) p 0 + c * get_or xs p 0) % m

next_past : (m c p : ℕ) (xs : List ℕ) → 0 < m → length xs + 1 ≤ p → next_number m c xs p ≡ 0
next_past m c p xs some le = rw (get_or_past (0 ∷ xs) p 0 (raised (length xs) le), get_or_past xs p 0 (omega arith))
    (ap (λ n. n % m) (none c) ∙ mod-eq_of_lt some)
  where
    raised : (n : ℕ) → n + 1 ≤ p → suc n ≤ p
    raised n h = omega arith

    none : (c : ℕ) → 0 + c * 0 ≡ 0
    none c = omega arith

-- a number of the row, of the numbers that stand there
pub number_here : (m c below share i : ℕ) (xs : List ℕ) → below ≡ get_or (0 ∷ xs) i 0 → share ≡ (c * get_or xs i 0) % m
    → (below + share) % m ≡ next_number m c xs i
number_here m c below share i xs is share_is = plus-mod m _ _ _ _ (ap (λ n. n % m) is)
    (ap (λ n. n % m) share_is ∙ mod-mod (c * get_or xs i 0) m)

pub number_below : (xs : List ℕ) (i : ℕ) → get_or xs i 0 ≡ get_or (0 ∷ xs) (i + 1) 0
number_below xs i = ap (λ n. get_or (0 ∷ xs) n 0) more
  where
    more : suc i ≡ i + 1
    more = omega arith

-- the last number is pushed behind the others
pub row_finished : (m c last n : ℕ) (xs next : List ℕ) → 0 < m → n ≡ length xs → length next ≡ n
    → last ≡ get_or (0 ∷ xs) n 0 → last < m → ((p : ℕ) → p < n → get_or next p 0 ≡ next_number m c xs p)
    → (p : ℕ) → get_or (next ++ last ∷ []) p 0 ≡ next_number m c xs p
row_finished m c last n xs next some whole len is small below = everywhere _ (n + 1)
    (pushed next last n (next_number m c xs) len below (sym here))
    (λ p le. get_or_past (next ++ last ∷ []) p 0 (ends p le) ∙ sym (next_past m c p xs some (past p le)))
  where
    here : next_number m c xs n ≡ last
    here = rw (← is, get_or_past xs n 0 (omega arith)) (ap (λ n. n % m) (alone last c) ∙ mod-eq_of_lt small)
      where
        alone : (a c : ℕ) → a + c * 0 ≡ a
        alone a c = omega arith

    ends : (p : ℕ) → n + 1 ≤ p → length (next ++ last ∷ []) ≤ p
    ends p le = rw (length-append next (last ∷ [])) (omega arith)

    past : (p : ℕ) → n + 1 ≤ p → length xs + 1 ≤ p
    past p le = omega arith
