-- What a write to a cell adds to the totals.
use Rattle.std.proofs.Common.{◌≡◌, ℕ, zero, suc, ◌+◌, ◌*◌, ◌%◌, ◌<◌, Bool, true, false, cond, List, [], ◌∷◌, ◌++◌}
use Rattle.std.proofs.Common.{length, get_or, take, drop, replicate, ◌-◌, ◌≤◌, ◌^◌, refl, sym, ◌∙◌, ap, subst, arith}
use Rattle.std.proofs.Math.ListN.{set}
use Rattle.std.proofs.lemmas.List.{take_more}
use Rattle.residue.proofs.Arithmetic.{plus, cancelled}
use Rattle.std.proofs.lemmas.Nat.{mul-mod_first, mul-lt}
use Rattle.std.proofs.Math.Nat.{mod-eq_of_lt, mod-mod, mod_self, mul-mod_right}
use Rattle.parts.specs.Places.{dot}
use Rattle.parts.specs.Terms.{products_total, sign}
use Rattle.parts.specs.declared.terms.Term.{Term}
use Rattle.parts.specs.Cells.{cells_total, row_total}
use Rattle.parts.specs.declared.cells.Placed.{Placed}

pub cells_total-set : (f : ℕ → ℕ) (i : ℕ) (xs : List ℕ) (j v d : ℕ) → j < length xs →
    cells_total f i (set xs j v) + get_or xs j d * f (i + j) ≡ cells_total f i xs + v * f (i + j)
cells_total-set f i [] j v d h = absurd (omega arith)
cells_total-set f i (x ∷ xs) zero v d h =
    subst (λ k. (v * f i + cells_total f (suc i) xs) + x * f k ≡ (x * f i + cells_total f (suc i) xs) + v * f k) e
    (omega arith)
  where
    e : i ≡ i + 0
    e = omega arith
cells_total-set f i (x ∷ xs) (suc j) v d h =
    subst (λ k. (x * f i + cells_total f (suc i) (set xs j v)) + get_or xs j d * f k ≡
    (x * f i + cells_total f (suc i) xs) + v * f k) e
    (omega (arith, cells_total-set f (suc i) xs j v d (omega arith)))
  where
    e : suc i + j ≡ i + suc j
    e = omega arith

row_total-append : (f : ℕ → ℕ) (start c : ℕ) (ps qs : List Placed) →
    row_total f start c (ps ++ qs) ≡ row_total f start c ps + row_total f start c qs
row_total-append f start c [] qs = omega arith
row_total-append f start c (p ∷ ps) qs = omega (arith, row_total-append f start c ps qs)

-- a cell gains a product, modulo m
pub row_step : (m : ℕ) (f : ℕ → ℕ) (before cells : List ℕ) (start c : ℕ) (row : List Placed) (i : ℕ) (d : Placed)
    (v : ℕ) → 0 < m → i < length row → start + (get_or row i d).place < length cells
    → v % m ≡ (get_or cells (start + (get_or row i d).place) 0 + c * (get_or row i d).coefficient) % m
    → cells_total f 0 cells % m ≡ (cells_total f 0 before + row_total f start c (take i row)) % m
    → cells_total f 0 (set cells (start + (get_or row i d).place) v) % m ≡
    (cells_total f 0 before + row_total f start c (take (i + 1) row)) % m
row_step m f before cells start c row i d v some lt inside is so_far = cancelled m _ _ (had * f at) some
    (ap (λ n. n % m) (subst (λ k. cells_total f 0 (set cells at v) + had * f k ≡ cells_total f 0 cells + v * f k)
    here (cells_total-set f 0 cells at v 0 inside))
    ∙ plus m _ _ (v * f at) ((had + gained) * f at) so_far (sym (mul-mod_first v (f at) m) ∙
    ap (λ n. (n * f at) % m) is ∙ mul-mod_first (had + gained) (f at) m)
    ∙ ap (λ n. n % m) (whole (row_total f start c (take (i + 1) row))
    (ap (row_total f start c) (take_more row i d lt) ∙
    row_total-append f start c (take i row) (get_or row i d ∷ []))))
  where
    at : ℕ
    at = start + (get_or row i d).place

    had : ℕ
    had = get_or cells at 0

    gained : ℕ
    gained = c * (get_or row i d).coefficient

    here : 0 + at ≡ at
    here = omega arith

    whole : (t : ℕ) → t ≡ row_total f start c (take i row) + (gained * f at + 0) →
        cells_total f 0 before + row_total f start c (take i row) + (had + gained) * f at ≡
        cells_total f 0 before + t + had * f at
    whole t e = omega (arith, e)

-- a cell and a product fit, and the sum folds to a cell
pub fits_below : (x c k : ℕ) → x < 2 ^ 127 → c < 2 ^ 63 → k < 2 ^ 63 → x + c * k < 2 ^ 127 + 2 ^ 126
fits_below x c k h i j = let e : c * k < 2 ^ 63 * 2 ^ 63 = mul-lt c k (2 ^ 63) (2 ^ 63) i j in omega arith

-- a multiple of m that is taken away changes nothing modulo m
pub taken : (m s t : ℕ) → 0 < m → t ≤ s → t % m ≡ 0 → (s - t) % m ≡ s % m
taken m s t some le e = sym (ap (λ n. n % m) (whole) ∙
    plus m (s - t) (s - t) t 0 refl (e ∙ sym (mod-eq_of_lt some)) ∙ ap (λ n. n % m) (omega arith))
  where
    whole : s ≡ (s - t) + t
    whole = omega arith

row_total-times : (f : ℕ → ℕ) (start c : ℕ) (row : List Placed) → row_total f start c row ≡ c * row_total f start 1 row
row_total-times f start c [] = omega arith
row_total-times f start c (p ∷ ps) = omega (arith, row_total-times f start c ps)

-- the coefficient, or its negative, modulo m
pub sign_is : (m k c : ℕ) (minus : Bool) → k < m → c ≡ cond minus ((m - k) % m) k → c % m ≡ (sign m minus * k) % m
sign_is m k c true lt e =
    ap (λ n. n % m) e ∙ mod-mod (m - k) m ∙
    cancelled m (m - k) ((m - 1) * k) k (omega arith)
    (ap (λ n. n % m) (let whole : (m - k) + k ≡ m = omega arith in whole) ∙ mod_self m ∙ sym (mul-mod_right m k) ∙
    ap (λ n. n % m) (let whole : m * k ≡ (m - 1) * k + k = times_more m k (omega arith) in whole))
  where
    times_more : (m k : ℕ) → 0 < m → m * k ≡ (m - 1) * k + k
    times_more zero k h = absurd (omega arith)
    times_more (suc p) k h = let e : suc p - 1 ≡ p = omega arith in rw e (omega arith)
sign_is m k c false lt e = ap (λ n. n % m) (e ∙ omega arith)

products_total-append : (f : ℕ → ℕ) (ms : List ℕ) (ts us : List Term) (row : List Placed) →
    products_total f ms (ts ++ us) row ≡ products_total f ms ts row + products_total f ms us row
products_total-append f ms [] us row = omega arith
products_total-append f ms (t ∷ ts) us row = omega (arith, products_total-append f ms ts us row)

-- a term's row is added or taken away
pub rows_step : (m : ℕ) (f : ℕ → ℕ) (before cells after ms : List ℕ) (ts : List Term) (row : List Placed) (i : ℕ)
    (d : Term) (minus : Bool) (c : ℕ) → i < length ts → (get_or ts i d).coefficient < m →
    c ≡ cond minus ((m - (get_or ts i d).coefficient) % m) (get_or ts i d).coefficient
    → cells_total f 0 after % m ≡
    (cells_total f 0 cells + row_total f (dot ms (get_or ts i d).monomial.powers) c row) % m
    → cells_total f 0 cells % m ≡ (cells_total f 0 before + sign m minus * products_total f ms (take i ts) row) % m
    → cells_total f 0 after % m ≡
    (cells_total f 0 before + sign m minus * products_total f ms (take (i + 1) ts) row) % m
rows_step m f before cells after ms ts row i d minus c lt below is step so_far = step
    ∙ plus m _ _ _ _ so_far (ap (λ n. n % m) (row_total-times f at c row) ∙ sym (mul-mod_first c r m) ∙
    ap (λ n. (n * r) % m) (sign_is m k c minus below is) ∙ mul-mod_first (sign m minus * k) r m)
    ∙ ap (λ n. n % m) (whole (sign m minus) (products_total f ms (take (i + 1) ts) row)
    (ap (λ l. products_total f ms l row) (take_more ts i d lt) ∙
    products_total-append f ms (take i ts) (get_or ts i d ∷ []) row ∙
    ap (λ n. products_total f ms (take i ts) row + (n + 0)) (row_total-times f at k row)))
  where
    at : ℕ
    at = dot ms (get_or ts i d).monomial.powers

    k : ℕ
    k = (get_or ts i d).coefficient

    r : ℕ
    r = row_total f at 1 row

    whole : (s t : ℕ) → t ≡ products_total f ms (take i ts) row + (k * r + 0) →
        cells_total f 0 before + s * products_total f ms (take i ts) row + (s * k) * r ≡ cells_total f 0 before + s * t
    whole s t e = (let h : cells_total f 0 before + s * products_total f ms (take i ts) row + (s * k) * r ≡
        cells_total f 0 before + s * (products_total f ms (take i ts) row + (k * r + 0)) = omega arith in h) ∙
        ap (λ n. cells_total f 0 before + s * n) (sym e)

pub cells_total-zeros : (f : ℕ → ℕ) (i n : ℕ) → cells_total f i (replicate n 0) ≡ 0
cells_total-zeros f i zero = refl
cells_total-zeros f i (suc n) = omega (arith, cells_total-zeros f (suc i) n)

-- what a slice of a vector became, put back
pub put_back : (xs ys : List ℕ) (n : ℕ) → length xs ≡ n → length ys ≡ n → take n (xs ++ drop (length xs) ys) ≡ xs
put_back [] ys n e f = subst (λ k. take k (drop 0 ys) ≡ []) e refl
put_back (x ∷ xs) [] n e f = absurd (omega arith)
put_back (x ∷ xs) (y ∷ ys) zero e f = absurd (omega arith)
put_back (x ∷ xs) (y ∷ ys) (suc n) e f = λ i. x ∷ put_back xs ys n (omega arith) (omega arith) i
