-- Each monomial is counted, and counted once.
use Rattle.std.proofs.Common.{◌≡◌, ℕ, zero, suc, ◌+◌, ◌-◌, ◌*◌, ◌/◌, ◌<◌, ◌≤◌, List, [], ◌∷◌, ◌++◌, length, map}
use Rattle.std.proofs.Common.{get_or, drop, refl, sym, ◌∙◌, ap, subst, arith, inl, inr, All}
use Rattle.std.specs.Prelude.{flat_map, Contains, AllPairs, ◌≢◌}
use Rattle.std.specs.List.{range_with_len}
use Rattle.std.proofs.Math.ListN.{get_or-append}
use Rattle.std.proofs.Math.Nat.{mul-div-le, mul-le-mul}
use Rattle.std.proofs.lemmas.Nat.{le-div}
use Rattle.std.proofs.lemmas.Bool.{cases_lt}
use Rattle.std.proofs.lemmas.List.{length-append, length-map, get_or-map, get_or-append_right}
use Rattle.std.proofs.lemmas.List.Elements.{All-append, All-cons, All-map, All-weaker, Contains-append_left}
use Rattle.std.proofs.lemmas.List.Elements.{Contains-append_right}
use Rattle.parts.specs.Counting.{powers_up_to}
use Rattle.parts.specs.Places.{dot}
use Rattle.parts.proofs.Counted.{with_power, all_with, powers-none, powers-cons}

-- what holds of all lists that come of each number from a on holds of all
flat-All : (P : List ℕ → Type 0) (f : ℕ → List (List ℕ)) (n a : ℕ) →
    ((x : ℕ) → a ≤ x → x < a + n → All P (f x)) → All P (flat_map f (range_with_len a n))
flat-All P f zero a each = λ i d lt. absurd (omega arith)
flat-All P f (suc n) a each =
    All-append P (f a) (flat_map f (range_with_len (a + 1) n)) (each a (omega arith) (omega arith))
    (flat-All P f n (a + 1) (λ x from to. each x (omega arith) (omega arith)))

flat-Contains : (f : ℕ → List (List ℕ)) (xs : List ℕ) (n a x : ℕ) → a ≤ x → x < a + n → Contains (f x) xs →
    Contains (flat_map f (range_with_len a n)) xs
flat-Contains f xs zero a x from to is = absurd (omega arith)
flat-Contains f xs (suc n) a x from to is = elim (cases_lt a x) [
  | inl l ↦ Contains-append_right (f a) (flat_map f (range_with_len (a + 1) n)) xs
      (flat-Contains f xs n (a + 1) x (omega arith) (omega arith) is)
  | inr g ↦ Contains-append_left (f a) (flat_map f (range_with_len (a + 1) n)) xs
      (subst (λ y. Contains (f y) xs) (let e : x ≡ a = omega arith in e) is)
]

-- only powers of that weight are listed
pub only_listed : (ws : List ℕ) (d : ℕ) → All (λ xs. (length xs ≡ length ws) × (dot ws xs ≤ d)) (powers_up_to ws d)
only_listed [] d =
    subst (All (λ xs. (length xs ≡ 0) × (dot [] xs ≤ d))) (sym (powers-none d))
    (All-cons (λ xs. (length xs ≡ 0) × (dot [] xs ≤ d)) [] [] (refl, omega arith) (λ i x lt. absurd (omega arith)))
only_listed (w ∷ ws) d =
    subst (All Fits) (sym (powers-cons w ws d))
    (flat-All Fits (with_power w ws d) (suc (d / w)) 0 (λ x from to.
    All-map Fits (λ xs. x ∷ xs) (powers_up_to ws (d - w * x))
    (All-weaker (λ xs. (length xs ≡ length ws) × (dot ws xs ≤ d - w * x)) (λ xs. Fits (x ∷ xs))
    (λ xs h. (ap suc h.0, (let low = within x (omega arith) in let rest = h.1 in omega arith)))
    (powers_up_to ws (d - w * x)) (only_listed ws (d - w * x)))))
  where
    Fits : List ℕ → Type 0
    Fits xs = (length xs ≡ suc (length ws)) × (dot (w ∷ ws) xs ≤ d)

    within : (x : ℕ) → x ≤ d / w → w * x ≤ d
    within x le =
        let h = mul-le-mul (let same : w ≤ w = omega arith in same) le in
        let most = mul-div-le d w in
        omega arith

Contains-behind : (x : ℕ) (xs : List ℕ) (ls : List (List ℕ)) → Contains ls xs →
    Contains (map (λ l. x ∷ l) ls) (x ∷ xs)
Contains-behind x xs ls (k, lt, is) = (
  k,
  subst (λ n. k < n) (sym (length-map ls (λ l. x ∷ l))) lt,
  get_or-map (λ l. x ∷ l) ls k xs (x ∷ xs) lt ∙ ap (λ l. x ∷ l) is,
)

-- all powers of that weight are listed
pub all_listed : (ws xs : List ℕ) (d : ℕ) → All (λ w. 0 < w) ws → length xs ≡ length ws → dot ws xs ≤ d →
    Contains (powers_up_to ws d) xs
all_listed [] [] d positive same le =
    subst (λ ls. Contains ls []) (sym (powers-none d)) (0, (let h : 0 < 1 = omega arith in h), refl)
all_listed [] (x ∷ xs) d positive same le = absurd (omega arith)
all_listed (w ∷ ws) [] d positive same le = absurd (omega arith)
all_listed (w ∷ ws) (x ∷ xs) d positive same le =
    subst (λ ls. Contains ls (x ∷ xs)) (sym (powers-cons w ws d))
    (flat-Contains (with_power w ws d) (x ∷ xs) (suc (d / w)) 0 x (omega arith)
    (let few = le-div x d w (positive 0 0 (omega arith)) (omega arith) in omega arith)
    (Contains-behind x xs (powers_up_to ws (d - w * x))
    (all_listed ws xs (d - w * x) (λ i v lt. positive (suc i) v (omega arith)) (omega arith) (omega arith))))

-- lists behind one another, each pair of which differs
append-AllPairs : (xs ys : List (List ℕ)) → AllPairs (λ a b. a ≢ b) xs → AllPairs (λ a b. a ≢ b) ys →
    ((i j : ℕ) (d : List ℕ) → i < length xs → j < length ys → get_or xs i d ≢ get_or ys j d) →
    AllPairs (λ a b. a ≢ b) (xs ++ ys)
append-AllPairs xs ys first second across i j d lt at same = elim (cases_lt j (length xs)) [
  | inl l ↦ first i j d lt l
      (sym (get_or-append xs ys d i (omega arith)) ∙ same ∙ get_or-append xs ys d j l)
  | inr g ↦ elim (cases_lt i (length xs)) [
    | inl k ↦ across i (j - length xs) d k (behind g)
        (sym (get_or-append xs ys d i k) ∙ same ∙ get_or-append_right xs ys (length xs) j d refl g)
    | inr h ↦ second (i - length xs) (j - length xs) d (omega arith) (behind g)
        (sym (get_or-append_right xs ys (length xs) i d refl h) ∙ same ∙
        get_or-append_right xs ys (length xs) j d refl g)
  ]
]
  where
    behind : length xs ≤ j → j - length xs < length ys
    behind g = let whole = length-append xs ys in omega arith

behind-AllPairs : (x : ℕ) (ls : List (List ℕ)) → AllPairs (λ a b. a ≢ b) ls →
    AllPairs (λ a b. a ≢ b) (map (λ l. x ∷ l) ls)
behind-AllPairs x ls differ i j d lt at same = differ i j [] lt within
    (ap (drop 1) (sym (get_or-map (λ l. x ∷ l) ls i [] d (omega (arith, within))) ∙ same ∙
    get_or-map (λ l. x ∷ l) ls j [] d within))
  where
    within : j < length ls
    within = subst (λ n. j < n) (length-map ls (λ l. x ∷ l)) at

-- no monomial is listed twice
pub listed_once : (ws : List ℕ) (d : ℕ) → AllPairs (λ a b. a ≢ b) (powers_up_to ws d)
listed_once [] d =
    subst (AllPairs (λ a b. a ≢ b)) (sym (powers-none d)) (λ i j x lt at same. absurd (omega arith))
listed_once (w ∷ ws) d =
    subst (AllPairs (λ a b. a ≢ b)) (sym (powers-cons w ws d)) (from_on (listed_once ws) (suc (d / w)) 0)
  where
    heads : (x : ℕ) → All (λ xs. get_or xs 0 0 ≡ x) (with_power w ws d x)
    heads x = All-map (λ xs. get_or xs 0 0 ≡ x) (λ xs. x ∷ xs) (powers_up_to ws (d - w * x)) (λ i l lt. refl)

    later : (n a : ℕ) → All (λ xs. a ≤ get_or xs 0 0) (all_with w ws d a n)
    later n a = flat-All (λ xs. a ≤ get_or xs 0 0) (with_power w ws d) n a
        (λ x from to. All-weaker (λ xs. get_or xs 0 0 ≡ x) (λ xs. a ≤ get_or xs 0 0) (λ xs h. omega arith)
        (with_power w ws d x) (heads x))

    from_on : ((e : ℕ) → AllPairs (λ xs ys. xs ≢ ys) (powers_up_to ws e)) → (n a : ℕ) →
        AllPairs (λ xs ys. xs ≢ ys) (all_with w ws d a n)
    from_on once zero a = λ i j x lt at same. absurd (omega arith)
    from_on once (suc n) a = append-AllPairs (with_power w ws d a) (all_with w ws d (a + 1) n)
        (behind-AllPairs a (powers_up_to ws (d - w * a)) (once (d - w * a))) (from_on once n (a + 1))
        (λ i j x lt at same.
        let first = heads a i x lt in
        let second = later n (a + 1) j x at in
        let equal = ap (λ xs. get_or xs 0 0) same in
        absurd (omega arith))
