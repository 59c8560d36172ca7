-- How many monomials there are: one more variable, bounds, and that each is counted once.
use Rattle.std.proofs.Common.{◌≡◌, ℕ, zero, suc, ◌+◌, ◌-◌, ◌*◌, ◌/◌, ◌^◌, ◌<◌, ◌≤◌, List, [], ◌∷◌, length, map}
use Rattle.std.proofs.Common.{All, take, get_or, replicate, drop, add-one, refl, sym, ◌∙◌, ap, subst, arith, lit<}
use Rattle.std.specs.Prelude.{flat_map}
use Rattle.std.specs.List.{range_with_len}
use Rattle.std.proofs.Math.Nat.{div-le_self, mul-div-le, div-eq_of_lt, div-eq-sub-div, mul-le-mul, pow-suc}
use Rattle.std.proofs.Math.Nat.{pow-le-pow_right}
use Rattle.std.proofs.Math.ListN.{drop_of_length-le}
use Rattle.std.proofs.Math.Seq.{drop-cons}
use Rattle.std.proofs.lemmas.Nat.{le-div}
use Rattle.std.proofs.lemmas.List.{length-append, length-map, get_or-replicate, get_or-take}
use Rattle.parts.specs.Counting.{powers_up_to, monomials_up_to, AreCounts, AddsVariable}
use Rattle.parts.proofs.Steps.{added_counts}
use Rattle.parts.proofs.Gained.{long_take}

-- lists of lists, one for each number from a on
module _ (f g : ℕ → List (List ℕ)) where
  -- as many, where each of the one has as many as the next of the other
  lists_moved : (n a : ℕ) → ((x : ℕ) → length (f (x + 1)) ≡ length (g x)) →
      length (flat_map f (range_with_len (a + 1) n)) ≡ length (flat_map g (range_with_len a n))
  lists_moved zero a same = refl
  lists_moved (suc n) a same = length-append (f (a + 1)) (flat_map f (range_with_len (a + 1 + 1) n)) ∙
      (λ i. same a i + lists_moved n (a + 1) same i) ∙
      sym (length-append (g a) (flat_map g (range_with_len (a + 1) n)))

  -- no more, where each has no more, and they are no more
  lists_fewer : (n m a : ℕ) → n ≤ m → ((x : ℕ) → length (f x) ≤ length (g x)) →
      length (flat_map f (range_with_len a n)) ≤ length (flat_map g (range_with_len a m))
  lists_fewer zero m a le each = omega arith
  lists_fewer (suc n) zero a le each = absurd (omega arith)
  lists_fewer (suc n) (suc m) a le each =
      let whole = length-append (f a) (flat_map f (range_with_len (a + 1) n)) in
      let other = length-append (g a) (flat_map g (range_with_len (a + 1) m)) in
      let rest = lists_fewer n m (a + 1) (omega arith) each in
      let first = each a in
      omega arith

  lists_within : (n a most : ℕ) → ((x : ℕ) → length (f x) ≤ most) →
      length (flat_map f (range_with_len a n)) ≤ n * most
  lists_within zero a most each = omega arith
  lists_within (suc n) a most each =
      let whole = length-append (f a) (flat_map f (range_with_len (a + 1) n)) in
      let rest = lists_within n (a + 1) most each in
      let first = each a in
      omega arith

-- the monomials with the power x of the first variable
abbrev pub with_power : ℕ → List ℕ → ℕ → ℕ → List (List ℕ)
with_power w ws d x = map (λ xs. x ∷ xs) (powers_up_to ws (d - w * x))

length-with_power : (w : ℕ) (ws : List ℕ) (d x : ℕ) → length (with_power w ws d x) ≡ monomials_up_to ws (d - w * x)
length-with_power w ws d x = length-map (powers_up_to ws (d - w * x)) (λ xs. x ∷ xs)

abbrev pub all_with : ℕ → List ℕ → ℕ → ℕ → ℕ → List (List ℕ)
all_with w ws d a n = flat_map (with_power w ws d) (range_with_len a n)

pub powers-none : (d : ℕ) → powers_up_to [] d ≡ [] ∷ []
unfolding powers_up_to
powers-none d = refl

pub powers-cons : (w : ℕ) (ws : List ℕ) (d : ℕ) → powers_up_to (w ∷ ws) d ≡ all_with w ws d 0 (suc (d / w))
unfolding powers_up_to
powers-cons w ws d = refl

pub count-none : (d : ℕ) → monomials_up_to [] d ≡ 1
count-none d = ap length (powers-none d)

first_and_rest : (w : ℕ) (ws : List ℕ) (d : ℕ) →
    monomials_up_to (w ∷ ws) d ≡ monomials_up_to ws d + length (all_with w ws d 1 (d / w))
first_and_rest w ws d = ap length (powers-cons w ws d) ∙
    length-append (with_power w ws d 0) (all_with w ws d 1 (d / w)) ∙
    ap (λ n. n + length (all_with w ws d 1 (d / w)))
    (length-with_power w ws d 0 ∙ ap (monomials_up_to ws) (let same : d - w * 0 ≡ d = omega arith in same))

-- below its weight a variable adds nothing
pub count-below : (w : ℕ) (ws : List ℕ) (d : ℕ) → d < w → monomials_up_to (w ∷ ws) d ≡ monomials_up_to ws d
count-below w ws d lt = first_and_rest w ws d ∙ ap (λ n. monomials_up_to ws d + length (all_with w ws d 1 n)) none ∙
    omega arith
  where
    none : d / w ≡ 0
    none = div-eq_of_lt lt

-- those without the variable, and those up to what it leaves
pub count-more : (w : ℕ) (ws : List ℕ) (d : ℕ) → 0 < w → w ≤ d →
    monomials_up_to (w ∷ ws) d ≡ monomials_up_to ws d + monomials_up_to (w ∷ ws) (d - w)
count-more w ws d some le = first_and_rest w ws d ∙ ap (λ n. monomials_up_to ws d + n) rest
  where
    left : (x : ℕ) → d - w * (x + 1) ≡ d - w - w * x
    left x = omega arith

    each : (x : ℕ) → length (with_power w ws d (x + 1)) ≡ length (with_power w ws (d - w) x)
    each x = length-with_power w ws d (x + 1) ∙ ap (monomials_up_to ws) (left x) ∙
        sym (length-with_power w ws (d - w) x)

    rest : length (all_with w ws d 1 (d / w)) ≡ monomials_up_to (w ∷ ws) (d - w)
    rest = lists_moved (with_power w ws d) (with_power w ws (d - w)) (d / w) 0 each ∙
        ap (λ n. length (all_with w ws (d - w) 0 n))
        (let next = div-eq-sub-div {m = w} {n = d} some le in let more : d / w ≡ suc ((d - w) / w) = omega arith in
        more) ∙
        sym (ap length (powers-cons w ws (d - w)))

-- up to a greater degree there are no fewer
pub count-lower : (ws : List ℕ) (d e : ℕ) → d ≤ e → monomials_up_to ws d ≤ monomials_up_to ws e
count-lower [] d e le = let a = count-none d in let b = count-none e in omega arith
count-lower (w ∷ ws) d e le =
    let a = ap length (powers-cons w ws d) in
    let b = ap length (powers-cons w ws e) in
    let all = lists_fewer (with_power w ws d) (with_power w ws e) (suc (d / w)) (suc (e / w)) 0
    (let below = quotients w in omega arith)
    (λ x. let f = length-with_power w ws d x in let g = length-with_power w ws e x in
    let less = count-lower ws (d - w * x) (e - w * x) (omega arith) in omega arith) in
    omega arith
  where
    quotients : (v : ℕ) → d / v ≤ e / v
    quotients zero = omega arith
    quotients (suc v) = le-div (d / suc v) e (suc v) (omega arith)
        (let h = mul-div-le d (suc v) in omega arith)

pub count-small : (ws : List ℕ) (d : ℕ) → d ≤ 4095 → monomials_up_to ws d ≤ 4096 ^ length ws
count-small [] d le = let a = count-none d in omega arith
count-small (w ∷ ws) d le =
    let a = ap length (powers-cons w ws d) in
    let all = lists_within (with_power w ws d) (with_power w ws d) (suc (d / w)) 0 (4096 ^ length ws)
    (λ x. let f = length-with_power w ws d x in
    let less = count-small ws (d - w * x) (omega arith) in omega arith) in
    let few : suc (d / w) ≤ 4096 = let h = div-le_self d w in omega arith in
    let more : suc (d / w) * 4096 ^ length ws ≤ 4096 * 4096 ^ length ws =
    mul-le-mul few (let same : 4096 ^ length ws ≤ 4096 ^ length ws = omega arith in same) in
    let power = pow-suc 4096 (length ws) in
    omega arith

-- the first of the weights from k on
pub weights-from : (ws : List ℕ) (k : ℕ) → k < length ws → drop k ws ≡ get_or ws k 0 ∷ drop (k + 1) ws
weights-from ws k lt = drop-cons ws k 0 lt ∙ ap (λ j. get_or ws k 0 ∷ drop j ws) (sym (add-one k))

pub counts_small : (ws : List ℕ) (D : ℕ) (counts : List ℕ) → D ≤ 4095 → length ws ≤ 8 →
    AreCounts (monomials_up_to ws) D counts → (d : ℕ) → d ≤ D → get_or counts d 0 ≤ 2 ^ 96
counts_small ws D counts low few are d le =
    let is = are d le in
    let small = count-small ws d (omega arith) in
    let most : 4096 ^ length ws ≤ 4096 ^ 8 = pow-le-pow_right {n = 4096} (lit< tt) {i = length ws} {j =
    8} (omega arith) in
    let fits : 4096 ^ 8 < 2 ^ 96 + 1 = lit< tt in
    omega arith

pub counts_more : (ws : List ℕ) (k D : ℕ) (old new : List ℕ) → k < length ws → 0 < get_or ws k 0 →
    AddsVariable (get_or ws k 0) D old new → AreCounts (monomials_up_to (drop (k + 1) ws)) D old →
    AreCounts (monomials_up_to (drop k ws)) D new
counts_more ws k D old new lt some adds are =
    subst (λ l. AreCounts (monomials_up_to l) D new) (sym (weights-from ws k lt))
    (added_counts (get_or ws k 0) D old new (monomials_up_to (drop (k + 1) ws))
    (monomials_up_to (get_or ws k 0 ∷ drop (k + 1) ws)) some (count-below (get_or ws k 0) (drop (k + 1) ws))
    (λ d. count-more (get_or ws k 0) (drop (k + 1) ws) d some) adds are)

-- the same for the first n of some weights, from the last one on
pub counts_next : (n : ℕ) (ws : List ℕ) (k j D : ℕ) (old new : List ℕ) → n ≤ length ws → k ≡ j + 1 → k ≤ n →
    All (λ w. 0 < w) ws → AddsVariable (get_or ws j 0) D old new
    → AreCounts (monomials_up_to (drop k (take n ws))) D old →
    AreCounts (monomials_up_to (drop j (take n ws))) D new
counts_next n ws k j D old new long next le positive adds are =
    counts_more (take n ws) j D old new (omega (arith, long_take n ws long))
    (subst (λ w. 0 < w) (sym here) (positive j 0 (omega arith)))
    (subst (λ w. AddsVariable w D old new) (sym here) adds)
    (subst (λ i. AreCounts (monomials_up_to (drop i (take n ws))) D old) next are)
  where
    here : get_or (take n ws) j 0 ≡ get_or ws j 0
    here = get_or-take n ws j 0 (omega arith)

-- with no variable there is one monomial, whatever the degree
pub counts_start : (ws : List ℕ) (n d most : ℕ) → length ws ≤ n → d < most →
    AreCounts (monomials_up_to (drop n ws)) d (replicate most 1)
counts_start ws n d most le low = λ r at. get_or-replicate most r 1 0 (omega arith) ∙
    sym (ap (λ l. monomials_up_to l r) (drop_of_length-le ws le) ∙ count-none r)

-- of one variable of weight 1 there is a monomial for each degree
pub count-one : (d : ℕ) → monomials_up_to (1 ∷ []) d ≡ d + 1
count-one zero = count-below 1 [] 0 (omega arith) ∙ count-none 0
count-one (suc d) =
    let whole = count-more 1 [] (suc d) (omega arith) (omega arith) in
    let first = count-none (suc d) in
    let rest : monomials_up_to (1 ∷ []) (suc d - 1) ≡ d + 1 =
    subst (λ e. monomials_up_to (1 ∷ []) e ≡ d + 1) (let same : d ≡ suc d - 1 = omega arith in same) (count-one d) in
    omega arith
