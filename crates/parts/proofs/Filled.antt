-- The steps of the loops over the powers of a monomial.
use Rattle.std.proofs.Common.{◌≡◌, ℕ, zero, suc, ◌+◌, ◌-◌, ◌*◌, ◌/◌, ◌%◌, ◌<◌, ◌≤◌, Bool, true, false, cond, List, []}
use Rattle.std.proofs.Common.{◌∷◌, ◌++◌, length, get_or, take, drop, append_assoc, add-one, length-drop, refl, sym}
use Rattle.std.proofs.Common.{◌∙◌, ap, subst, arith}
use Rattle.std.specs.Prelude.{Option, Some, None, ◌==◌, nat_le}
use Rattle.std.specs.Option.{option_map}
use Rattle.std.proofs.Math.ListN.{set}
use Rattle.std.proofs.Math.Seq.{drop-cons}
use Rattle.std.proofs.lemmas.List.{take_more_set, drop-set, take_all, length-set}
use Rattle.std.proofs.lemmas.Bool.{le-leb, lt-leb}
use Rattle.parts.specs.Places.{dot, size, multipliers, powers_at}
use Rattle.parts.proofs.Ordered.{size-positive}

pub dot-drop : (ms xs : List ℕ) (j : ℕ) → j < length ms → j < length xs →
    dot (drop j ms) (drop j xs) ≡ get_or ms j 0 * get_or xs j 0 + dot (drop (j + 1) ms) (drop (j + 1) xs)
dot-drop ms xs j h k = (λ i. dot (drop-cons ms j 0 h i) (drop-cons xs j 0 k i)) ∙
    ap (λ l. get_or ms j 0 * get_or xs j 0 + dot (drop l ms) (drop l xs)) (sym (add-one j))

size-cons : (d w : ℕ) (ws : List ℕ) → 0 < length ws → size d (w ∷ ws) ≡ suc (d / w) * size d ws
size-cons d w [] h = absurd (omega arith)
size-cons d w (v ∷ ws) h = refl

pub nothing_left : (ws : List ℕ) → length ws ≡ 0 → ws ≡ []
nothing_left [] e = refl
nothing_left (w ∷ ws) e = absurd (omega arith)

-- the sizes from j on, by those behind j
pub size-first : (d : ℕ) (ws : List ℕ) (j : ℕ) → j + 1 ≡ length ws → size d (drop j ws) ≡ 1
size-first d ws j e = ap (size d) (drop-cons ws j 0 (omega arith)) ∙
    ap (λ l. size d (get_or ws j 0 ∷ l)) (nothing_left (drop (suc j) ws) (omega (arith, length-drop (suc j) ws)))

pub size-more : (d : ℕ) (ws : List ℕ) (j : ℕ) → j + 1 < length ws →
    size d (drop j ws) ≡ (d / get_or ws j 0 + 1) * size d (drop (j + 1) ws)
size-more d ws j e = ap (size d) (drop-cons ws j 0 (omega arith)) ∙
    size-cons d (get_or ws j 0) (drop (suc j) ws) (omega (arith, length-drop (suc j) ws)) ∙
    (λ i. sym (add-one (d / get_or ws j 0)) i * size d (drop (sym (add-one j) i) ws))

pub multipliers-more : (d : ℕ) (ws sizes : List ℕ) (j count : ℕ) → j < length ws → length ws ≡ length sizes →
    count ≡ size d (drop (j + 1) ws) → drop (j + 1) sizes ≡ multipliers d (drop (j + 1) ws) →
    drop j (set sizes j count) ≡ multipliers d (drop j ws)
multipliers-more d ws sizes j count lt same e h = drop-set sizes j count (omega arith) ∙ (λ i. e i ∷ h i) ∙
    ap (λ l. size d (drop l ws) ∷ multipliers d (drop l ws)) (add-one j) ∙
    sym (ap (multipliers d) (drop-cons ws j 0 lt))

multipliers-suc : (d : ℕ) (ws : List ℕ) (j : ℕ) → j < length ws →
    get_or (multipliers d ws) j 0 ≡ size d (drop (suc j) ws)
multipliers-suc d [] j lt = absurd (omega arith)
multipliers-suc d (w ∷ ws) zero lt = refl
multipliers-suc d (w ∷ ws) (suc j) lt = multipliers-suc d ws j (omega arith)

pub multipliers-at : (d : ℕ) (ws : List ℕ) (j : ℕ) → j < length ws →
    get_or (multipliers d ws) j 0 ≡ size d (drop (j + 1) ws)
multipliers-at d ws j lt = multipliers-suc d ws j lt ∙ ap (λ l. size d (drop l ws)) (sym (add-one j))

size-some : (d : ℕ) (ws : List ℕ) → 0 < length ws → 0 < size d ws
size-some d [] h = absurd (omega arith)
size-some d (w ∷ ws) h = size-positive d w ws

pub multiplier-positive : (d : ℕ) (ws : List ℕ) (j : ℕ) → j + 1 < length ws → 0 < get_or (multipliers d ws) j 0
multiplier-positive d ws j lt =
    subst (λ n. 0 < n) (sym (multipliers-at d ws j (omega arith)))
    (size-some d (drop (j + 1) ws) (omega (arith, length-drop (j + 1) ws)))

powers_at-cons : (d w : ℕ) (ws : List ℕ) (left i : ℕ) → 0 < length ws →
    powers_at d (w ∷ ws) left i ≡
    cond (nat_le (i / size d ws) (left / w))
    (option_map (λ xs. i / size d ws ∷ xs) (powers_at d ws (left - w * (i / size d ws)) (i % size d ws))) None
powers_at-cons d w [] left i h = absurd (omega arith)
powers_at-cons d w (v ∷ ws) left i h = refl

twice : (xs : List ℕ) (q : ℕ) (o : Option (List ℕ)) →
    option_map (λ zs. xs ++ zs) (option_map (λ zs. q ∷ zs) o) ≡ option_map (λ zs. (xs ++ q ∷ []) ++ zs) o
twice xs q None = refl
twice xs q (Some zs) = ap Some (sym (append_assoc xs (q ∷ []) zs))

at_step : (d : ℕ) (ws : List ℕ) (left rest j s : ℕ) → j + 1 < length ws → s ≡ get_or (multipliers d ws) j 0 →
    powers_at d (drop j ws) left rest ≡
    cond (nat_le (rest / s) (left / get_or ws j 0))
    (option_map (λ xs. rest / s ∷ xs)
    (powers_at d (drop (j + 1) ws) (left - get_or ws j 0 * (rest / s)) (rest % s))) None
at_step d ws left rest j s lt e =
    ap (λ l. powers_at d l left rest) (drop-cons ws j 0 (omega arith) ∙
    ap (λ l. get_or ws j 0 ∷ drop l ws) (sym (add-one j)))
    ∙ powers_at-cons d (get_or ws j 0) (drop (j + 1) ws) left rest (omega (arith, length-drop (j + 1) ws))
    ∙ ap (λ n. cond (nat_le (rest / n) (left / get_or ws j 0))
    (option_map (λ xs. rest / n ∷ xs)
    (powers_at d (drop (j + 1) ws) (left - get_or ws j 0 * (rest / n)) (rest % n))) None)
    (sym (e ∙ multipliers-at d ws j (omega arith)))

pub filled : (d : ℕ) (ws powers : List ℕ) (left rest j s : ℕ) → j + 1 < length ws → j < length powers →
    s ≡ get_or (multipliers d ws) j 0 → rest / s ≤ left / get_or ws j 0
    → option_map (λ zs. take j powers ++ zs) (powers_at d (drop j ws) left rest) ≡
    option_map (λ zs. take (j + 1) (set powers j (rest / s)) ++ zs)
    (powers_at d (drop (j + 1) ws) (left - get_or ws j 0 * (rest / s)) (rest % s))
filled d ws powers left rest j s lt short e le =
    ap (option_map (λ zs. take j powers ++ zs)) (at_step d ws left rest j s lt e ∙
    ap (λ b. cond b (option_map (λ xs. rest / s ∷ xs)
    (powers_at d (drop (j + 1) ws) (left - get_or ws j 0 * (rest / s)) (rest % s))) None)
    (le-leb (rest / s) (left / get_or ws j 0) le))
    ∙ twice (take j powers) (rest / s) (powers_at d (drop (j + 1) ws) (left - get_or ws j 0 * (rest / s)) (rest % s))
    ∙ ap (λ l. option_map (λ zs. l ++ zs)
    (powers_at d (drop (j + 1) ws) (left - get_or ws j 0 * (rest / s)) (rest % s)))
    (sym (take_more_set powers j (rest / s) short))

pub stopped : (d : ℕ) (ws powers : List ℕ) (left rest j s : ℕ) → j + 1 < length ws →
    s ≡ get_or (multipliers d ws) j 0 → left / get_or ws j 0 < rest / s →
    option_map (λ zs. take j powers ++ zs) (powers_at d (drop j ws) left rest) ≡ None
stopped d ws powers left rest j s lt e le =
    ap (option_map (λ zs. take j powers ++ zs)) (at_step d ws left rest j s lt e ∙
    ap (λ b. cond b (option_map (λ xs. rest / s ∷ xs)
    (powers_at d (drop (j + 1) ws) (left - get_or ws j 0 * (rest / s)) (rest % s))) None)
    (lt-leb (rest / s) (left / get_or ws j 0) le))

pub completed : (d : ℕ) (ws powers : List ℕ) (left rest j : ℕ) → j + 1 ≡ length ws → length powers ≡ length ws →
    option_map (λ zs. take j powers ++ zs) (powers_at d (drop j ws) left rest) ≡
    cond (left % get_or ws j 0 == 0) (Some (set powers j (left / get_or ws j 0))) None
completed d ws powers left rest j e same =
    ap (λ l. option_map (λ zs. take j powers ++ zs) (powers_at d l left rest)) (drop-cons ws j 0 (omega arith) ∙
    ap (λ l. get_or ws j 0 ∷ l) (nothing_left (drop (suc j) ws) (omega (arith, length-drop (suc j) ws))))
    ∙ last_one (left % get_or ws j 0 == 0)
  where
    last_one : (b : Bool) → option_map (λ zs. take j powers ++ zs)
        (cond b (Some (left / get_or ws j 0 ∷ [])) None) ≡ cond b (Some (set powers j (left / get_or ws j 0))) None
    last_one true = ap Some (sym (take_more_set powers j (left / get_or ws j 0) (omega arith)) ∙
        take_all (j + 1) (set powers j (left / get_or ws j 0))
        (omega (arith, length-set powers j (left / get_or ws j 0))))
    last_one false = refl
