-- Newlines and lines in a list of bytes.
use Rattle.std.proofs.Common.{◌≡◌, ◌≢◌, ℕ, suc, ◌+◌, ◌-◌, ◌<◌, ◌≤◌, true, false, eqb, List, [], ◌∷◌, length, take}
use Rattle.std.proofs.Common.{drop, get_or, refl, ap, sym, ◌∙◌, inl, inr, arith, length-drop, length-take}
use Rattle.std.proofs.lemmas.List.{get_or-drop, get_or-take, get_or_default, drop-take, take-take}
use Rattle.std.proofs.lemmas.Bool.{cases_lt, eq-eqb, ne_eqb}
use Rattle.ports.specs.Reading.{HasNoNewline, without_return}

-- no newline stands from p up to t
pub at_place : (xs : List ℕ) (p t : ℕ) → HasNoNewline (drop p (take t xs)) →
    (k : ℕ) → p ≤ k → k < t → k < length xs → get_or xs k 0 ≢ 10
at_place xs p t none k low high within is =
    let inside : k - p < length (drop p (take t xs)) =
    omega (arith, length-drop p (take t xs), length-take t xs) in
    let place : p + (k - p) ≡ k = omega arith in
    let same : get_or (drop p (take t xs)) (k - p) 0 ≡ get_or xs k 0 =
    get_or-drop p (take t xs) (k - p) 0 ∙
    (ap (λ (j : ℕ). get_or (take t xs) j 0) place ∙ get_or-take t xs k 0 high) in
    none (k - p) 0 inside (same ∙ is)

pub from_places : (xs : List ℕ) (p t : ℕ) →
    ((k : ℕ) → p ≤ k → k < t → k < length xs → get_or xs k 0 ≢ 10) →
    HasNoNewline (drop p (take t xs))
from_places xs p t none k d lt is =
    let l : k < length (take t xs) - p = omega (arith, length-drop p (take t xs)) in
    let m : p + k < t = omega (arith, length-take t xs) in
    let n : p + k < length xs = omega (arith, length-take t xs) in
    let same : get_or xs (p + k) 0 ≡ get_or (drop p (take t xs)) k d =
    get_or_default xs (p + k) 0 d n ∙
    (sym (get_or-take t xs (p + k) d m) ∙ sym (get_or-drop p (take t xs) k d)) in
    none (p + k) (omega arith) m n (same ∙ is)

-- two stretches with no newline, end to end
pub HasNoNewline-joined : (xs : List ℕ) (p s t : ℕ) →
    HasNoNewline (drop p (take s xs)) → HasNoNewline (drop s (take t xs)) →
    HasNoNewline (drop p (take t xs))
HasNoNewline-joined xs p s t one two =
    from_places xs p t (λ k low high within. elim (cases_lt k s) [
      | inl below ↦ at_place xs p s one k low below within
      | inr above ↦ at_place xs s t two k above high within
    ])

-- a line that doesn't end with 13 stays
pub without_return-other : (xs : List ℕ) →
    (0 < length xs → get_or xs (length xs - 1) 0 ≢ 13) → without_return xs ≡ xs
without_return-other [] other = refl
without_return-other (b ∷ []) other =
    let e : eqb b 13 ≡ false = ne_eqb b 13 (other (omega arith)) in
    rw e refl
without_return-other (b ∷ c ∷ xs) other =
    let e : length (b ∷ c ∷ xs) - 1 ≡ suc (length (c ∷ xs) - 1) = omega arith in
    let last = ap (λ (j : ℕ). get_or (b ∷ c ∷ xs) j 0) e in
    let rest = without_return-other (c ∷ xs) (λ some is. other (omega arith) (last ∙ is)) in
    ap (λ (ys : List ℕ). b ∷ ys) rest

-- a line that ends with 13 loses it
pub without_return-last : (xs : List ℕ) → 0 < length xs →
    get_or xs (length xs - 1) 0 ≡ 13 → without_return xs ≡ take (length xs - 1) xs
without_return-last [] some is = absurd (omega arith)
without_return-last (b ∷ []) some is =
    let e : eqb b 13 ≡ true = eq-eqb b 13 is in
    rw e refl
without_return-last (b ∷ c ∷ xs) some is =
    let e : length (b ∷ c ∷ xs) - 1 ≡ suc (length (c ∷ xs) - 1) = omega arith in
    let last : get_or (c ∷ xs) (length (c ∷ xs) - 1) 0 ≡ 13 =
    sym (ap (λ (j : ℕ). get_or (b ∷ c ∷ xs) j 0) e) ∙ is in
    let rest = without_return-last (c ∷ xs) (omega arith) last in
    ap (λ (ys : List ℕ). b ∷ ys) rest ∙ sym (ap (λ (j : ℕ). take j (b ∷ c ∷ xs)) e)

-- the bytes from s up to e, with their length and their last byte
length_part : (xs : List ℕ) (s e : ℕ) → s ≤ e → e ≤ length xs → length (drop s (take e xs)) ≡ e - s
length_part xs s e order fits = omega (arith, length-drop s (take e xs), length-take e xs)

last_part : (xs : List ℕ) (s e : ℕ) → s < e → e ≤ length xs →
    get_or (drop s (take e xs)) (length (drop s (take e xs)) - 1) 0 ≡ get_or xs (e - 1) 0
last_part xs s e order fits =
    let part : List ℕ = drop s (take e xs) in
    let size : length part - 1 ≡ e - 1 - s = omega (arith, length_part xs s e (omega arith) fits) in
    let place : s + (e - 1 - s) ≡ e - 1 = omega arith in
    ap (λ (j : ℕ). get_or part j 0) size ∙
    (get_or-drop s (take e xs) (e - 1 - s) 0 ∙
    (ap (λ (j : ℕ). get_or (take e xs) j 0) place ∙ get_or-take e xs (e - 1) 0 (omega arith)))

pub text-other : (xs : List ℕ) (s e : ℕ) → s ≤ e → e ≤ length xs →
    (s < e → get_or xs (e - 1) 0 ≢ 13) →
    drop s (take e xs) ≡ without_return (drop s (take e xs))
text-other xs s e order fits other =
    sym (without_return-other (drop s (take e xs)) (λ some is.
    let below : s < e = omega (arith, length_part xs s e order fits) in
    other below (sym (last_part xs s e below fits) ∙ is)))

pub text-last : (xs : List ℕ) (s e : ℕ) → s < e → e ≤ length xs →
    get_or xs (e - 1) 0 ≡ 13 →
    drop s (take (e - 1) xs) ≡ without_return (drop s (take e xs))
text-last xs s e order fits is =
    let part : List ℕ = drop s (take e xs) in
    let l : length part ≡ e - s = length_part xs s e (omega arith) fits in
    let m : ℕ = e - 1 - s in
    let short : take (e - 1) xs ≡ take (s + m) xs = ap (λ (j : ℕ). take j xs) (omega arith) in
    let long : take e xs ≡ take (s + (m + 1)) xs = ap (λ (j : ℕ). take j xs) (omega arith) in
    let one : drop s (take (e - 1) xs) ≡ take m (drop s xs) =
    ap (λ (ys : List ℕ). drop s ys) short ∙ drop-take s m xs in
    let two : part ≡ take (m + 1) (drop s xs) =
    ap (λ (ys : List ℕ). drop s ys) long ∙ drop-take s (m + 1) xs in
    let three : take (length part - 1) part ≡ take m part = ap (λ (j : ℕ). take j part) (omega arith) in
    let four : take m part ≡ take m (drop s xs) =
    ap (λ (ys : List ℕ). take m ys) two ∙ take-take m (m + 1) (drop s xs) (omega arith) in
    let last = without_return-last part (omega arith) (last_part xs s e order fits ∙ is) in
    one ∙ sym (last ∙ (three ∙ four))
