-- Numbers of monomials of one degree, and of their cells.
use Rattle.std.proofs.Common.{◌≡◌, ℕ, zero, suc, ◌+◌, ◌-◌, ◌*◌, ◌/◌, ◌^◌, ◌<◌, ◌≤◌, refl, sym, ◌∙◌, ap, subst, arith}
use Rattle.std.proofs.Common.{List, []}
use Rattle.std.proofs.Common.{◌∷◌, length, get_or, drop, add-one}
use Rattle.std.proofs.Math.Nat.{div-eq_of_lt, add-div_right, mul-le-mul, div-le_self, div-mul-le_self}
use Rattle.std.proofs.lemmas.Nat.{le-div}
use Rattle.parts.specs.Places.{size, sum_to, monomials_at}
use Rattle.parts.specs.Counting.{AreCounts, AddsVariable}
use Rattle.parts.proofs.Steps.{added_counts}
use Rattle.std.proofs.Common.{Bool, true, false, cond, All, replicate, drop-cons}
use Rattle.std.specs.Prelude.{◌==◌}
use Rattle.std.proofs.lemmas.Bool.{eqb-true}
use Rattle.std.proofs.Math.ListN.{set}
use Rattle.parts.proofs.Filled.{size-more}
use Rattle.parts.proofs.Ordered.{ArePositive}

sum_to-le : (n b : ℕ) (f : ℕ → ℕ) → ((k : ℕ) → f k ≤ b) → sum_to n f ≤ suc n * b
sum_to-le zero b f h = omega (arith, h 0)
sum_to-le (suc n) b f h = omega (arith, h 0, sum_to-le n b (λ k. f (suc k)) (λ k. h (suc k)))

-- below its weight a variable adds no monomial
pub monomials-below : (w : ℕ) (ws : List ℕ) (d : ℕ) → d < w → monomials_at (w ∷ ws) d ≡ monomials_at ws d
monomials-below w ws d lt = ap (λ n. sum_to n (λ k. monomials_at ws (d - w * k))) (div-eq_of_lt lt) ∙
    ap (monomials_at ws) nothing
  where
    nothing : d - w * 0 ≡ d
    nothing = omega arith

-- a monomial is without the first variable, or that variable times another one
pub monomials-from : (w : ℕ) (ws : List ℕ) (d : ℕ) → 0 < w → w ≤ d →
    monomials_at (w ∷ ws) d ≡ monomials_at ws d + monomials_at (w ∷ ws) (d - w)
monomials-from w ws d some le = ap (λ n. sum_to n (λ k. monomials_at ws (d - w * k))) quotient ∙
    (λ i. monomials_at ws (nothing i) + sum_to ((d - w) / w) (λ k. monomials_at ws (less k i)))
  where
    whole : d ≡ d - w + w
    whole = omega arith

    quotient : d / w ≡ suc ((d - w) / w)
    quotient = ap (λ n. n / w) whole ∙ add-div_right (d - w) some ∙ add-one ((d - w) / w)

    nothing : d - w * 0 ≡ d
    nothing = omega arith

    less : (k : ℕ) → d - w * suc k ≡ d - w - w * k
    less k = omega arith

-- fewer sizes have no more cells
pub size-drop : (d : ℕ) (ws : List ℕ) (j : ℕ) → size d (drop j ws) ≤ size d ws
size-drop d ws zero = omega arith
size-drop d [] (suc j) = omega arith
size-drop d (w ∷ []) (suc j) = let h : size d (drop j []) ≤ 0 = size-drop d [] j in omega arith
size-drop d (w ∷ (v ∷ ws)) (suc j) = let h = size-drop d (v ∷ ws) j in
    let p : 1 * size d (v ∷ ws) ≤ suc (d / w) * size d (v ∷ ws) = mul-le-mul (omega arith) (omega arith) in
    omega arith

one_alone : (n : ℕ) → monomials_at [] n ≤ 1
one_alone n = elim (n == 0) as (λ b. cond b 1 0 ≤ 1) [ true ↦ omega arith | false ↦ omega arith ]

-- of a degree up to D there are at most D + 1 monomials a cell
pub monomials-few : (D : ℕ) (ws : List ℕ) (d : ℕ) → ArePositive ws → 0 < length ws → d ≤ D →
    monomials_at ws d ≤ suc D * size D ws
monomials-few D [] d positive some le = absurd (omega arith)
monomials-few D (w ∷ []) d positive some le =
    let h = sum_to-le (d / w) 1 (λ k. monomials_at [] (d - w * k)) (λ k. one_alone (d - w * k)) in
    omega (arith, div-le_self d w)
monomials-few D (w ∷ (v ∷ ws)) d positive some le =
    let h = sum_to-le (d / w) (suc D * size D (v ∷ ws)) (λ k. monomials_at (v ∷ ws) (d - w * k))
    (λ k. monomials-few D (v ∷ ws) (d - w * k) positive.1 (omega arith) (omega arith)) in
    let p : suc (d / w) * (suc D * size D (v ∷ ws)) ≤ suc (D / w) * (suc D * size D (v ∷ ws)) =
    mul-le-mul (omega (arith, quotients)) (omega arith) in
    omega (arith, turned (suc (D / w)) (suc D) (size D (v ∷ ws)))
  where
    quotients : d / w ≤ D / w
    quotients = le-div (d / w) D w positive.0 (omega (arith, div-mul-le_self d w))

    turned : (a b c : ℕ) → a * (b * c) ≡ b * (a * c)
    turned a b c = omega arith

-- where the cells of the variables from j on are too many, those of all are
pub size-past : (d : ℕ) (ws : List ℕ) (j count next : ℕ) → j + 1 < length ws → count ≡ size d (drop (j + 1) ws) →
    next ≡ count * (d / get_or ws j 0 + 1) → 2 ^ 24 < next → 2 ^ 24 < size d ws
size-past d ws j count next lt is more many =
    let p : next ≡ size d (drop j ws) = more ∙ turned count (d / get_or ws j 0 + 1) ∙
    ap (λ n. (d / get_or ws j 0 + 1) * n) is ∙ sym (size-more d ws j lt) in
    omega (arith, size-drop d ws j)
  where
    turned : (a b : ℕ) → a * b ≡ b * a
    turned a b = omega arith

zero_in : (n k : ℕ) → ◌≡◌ {A = ℕ} (get_or (replicate n 0) k 0) 0
zero_in zero k = refl
zero_in (suc n) zero = refl
zero_in (suc n) (suc k) = zero_in n k

none_above : (d : ℕ) → 0 < d → ◌≡◌ {A = ℕ} (monomials_at [] d) 0
none_above d some = by_test (d == 0) refl
  where
    by_test : (b : Bool) → (d == 0) ≡ b → ◌≡◌ {A = ℕ} (cond b 1 0) 0
    by_test true e = let h = eqb-true d 0 e in absurd (omega arith)
    by_test false e = refl

-- without variables there is one monomial, of degree 0
pub counts_none : (D n : ℕ) (ws : List ℕ) → ws ≡ [] → 0 < n → AreCounts (monomials_at ws) D (set (replicate n 0) 0 1)
counts_none D zero ws e some k le = absurd (omega arith)
counts_none D (suc n) ws e some zero le = sym (ap (λ l. monomials_at l 0) e)
counts_none D (suc n) ws e some (suc k) le =
    zero_in n k ∙ sym (none_above (suc k) (omega arith)) ∙ sym (ap (λ l. monomials_at l (suc k)) e)

positive_drop : (j : ℕ) (ws : List ℕ) → All (λ w. 0 < w) ws → ArePositive (drop j ws)
positive_drop zero [] h = tt
positive_drop zero (w ∷ ws) h = (h 0 0 (omega arith), positive_drop zero ws (λ k d lt. h (suc k) d (omega arith)))
positive_drop (suc j) [] h = tt
positive_drop (suc j) (w ∷ ws) h = positive_drop j ws (λ k d lt. h (suc k) d (omega arith))

small_at : (D : ℕ) (ws : List ℕ) (d : ℕ) → ArePositive ws → D ≤ 4095 → size D ws ≤ 2 ^ 24 → d ≤ D →
    monomials_at ws d ≤ 2 ^ 36
small_at D [] d positive low few le = let h = one_alone d in omega arith
small_at D (w ∷ ws) d positive low few le =
    let p : suc D * size D (w ∷ ws) ≤ 4096 * 2 ^ 24 =
    mul-le-mul {n₁ = suc D} {m₁ = size D (w ∷ ws)} {n₂ = 4096} {m₂ = 2 ^ 24} (omega arith) few in
    omega (arith, monomials-few D (w ∷ ws) d positive (omega arith) le)

pub counts_small : (D : ℕ) (ws : List ℕ) (j : ℕ) (counts : List ℕ) → All (λ w. 0 < w) ws → D ≤ 4095 →
    size D ws ≤ 2 ^ 24 → AreCounts (monomials_at (drop j ws)) D counts → (k : ℕ) → k ≤ D → get_or counts k 0 ≤ 2 ^ 36
counts_small D ws j counts positive low few all k le =
    let h = small_at D (drop j ws) k (positive_drop j ws positive) low (omega (arith, size-drop D ws j)) le in
    omega (arith, all k le)

pub counts_more : (D : ℕ) (ws : List ℕ) (j : ℕ) (w : ℕ) (old new : List ℕ) → j < length ws → w ≡ get_or ws j 0 →
    0 < w → AddsVariable w D old new → AreCounts (monomials_at (drop (suc j) ws)) D old →
    AreCounts (monomials_at (drop j ws)) D new
counts_more D ws j w old new lt is some adds all =
    subst (λ l. AreCounts (monomials_at l) D new) (sym (drop-cons ws j 0 lt ∙ ap (λ v. v ∷ drop (suc j) ws) (sym is)))
    (added_counts w D old new (monomials_at (drop (suc j) ws)) (monomials_at (w ∷ drop (suc j) ws)) some
    (monomials-below w (drop (suc j) ws)) (λ d. monomials-from w (drop (suc j) ws) d some) adds all)
