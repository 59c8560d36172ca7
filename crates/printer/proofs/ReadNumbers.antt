-- Numbers without leading zeros are read back from their texts.
use Rattle.std.proofs.Common.{◌≡◌, ℕ, suc, ◌+◌, ◌-◌, ◌*◌, ◌/◌, ◌%◌, ◌^◌, ◌<◌, ◌≤◌, Bool, true, false, cond, ◌&&◌, not}
use Rattle.std.proofs.Common.{List, [], ◌∷◌, ◌++◌, length, get_or, Option, Some, None, decimal}
use Rattle.std.proofs.Common.{refl, sym, ◌∙◌, ap, arith, append_assoc, eqb, leb, drop, drop-cons}
use Rattle.std.proofs.lemmas.Bool.{and_parts, leb-true, le-leb, lt-leb, eqb-false, ne_eqb}
use Rattle.std.proofs.lemmas.Option.{none-some, same_Some}
use Rattle.std.proofs.lemmas.Fmt.{decimal_digit, decimal_step, decimal_by_steps, first_decimal, decimal_nonempty}
use Rattle.std.specs.Char.{is_ascii_digit}
use Rattle.printer.specs.ReadForms.{up_to, digits_from, number_in}

-- digits
pub digit_least : (b : ℕ) → is_ascii_digit b ≡ true → 48 ≤ b
digit_least b h = leb-true 48 b (and_parts (leb 48 b) (leb b 57) h).0

pub digit_most : (b : ℕ) → is_ascii_digit b ≡ true → b ≤ 57
digit_most b h = leb-true b 57 (and_parts (leb 48 b) (leb b 57) h).1

pub digit_test : (d : ℕ) → d < 10 → is_ascii_digit (48 + d) ≡ true
digit_test d h = rw (le-leb 48 (48 + d) (omega arith), le-leb (48 + d) 57 (omega arith)) refl

digit_back : (b : ℕ) → 48 ≤ b → 48 + (b - 48) ≡ b
digit_back b h = omega arith

-- a further digit
decimal_more : (n d : ℕ) → 0 < n → d < 10 → 10 * n + d < 2 ^ 64 → decimal (10 * n + d) ≡ decimal n ++ (48 + d) ∷ []
decimal_more n d some small fits =
    decimal_step (10 * n + d) (omega arith) fits
    ∙ (λ i. decimal (quotient n d small i) ++ (48 + remainder n d small i) ∷ [])
  where
    quotient : (n d : ℕ) → d < 10 → (10 * n + d) / 10 ≡ n
    quotient n d small = omega arith

    remainder : (n d : ℕ) → d < 10 → (10 * n + d) % 10 ≡ d
    remainder n d small = omega arith

pub digits_grow : (n : ℕ) (bs : List ℕ) → n ≤ (digits_from n bs).0
digits_grow n [] = omega arith
digits_grow n (b ∷ bs) = elim (is_ascii_digit b) as
    (λ v. n ≤ (cond v (digits_from (10 * n + (b - 48)) bs) (n, b ∷ bs)).0) [
      | true ↦ omega (arith, digits_grow (10 * n + (b - 48)) bs)
      | false ↦ omega arith
    ]

-- what was read is the text of the number
abbrev IsRead : ℕ → List ℕ → ℕ × List ℕ → Type 0
IsRead n bs p = p.0 < 2 ^ 64 → decimal p.0 ++ p.1 ≡ decimal n ++ bs

longer : (n b : ℕ) (bs : List ℕ) (p : ℕ × List ℕ) → 0 < n → is_ascii_digit b ≡ true → 10 * n + (b - 48) ≤ p.0
    → IsRead (10 * n + (b - 48)) bs p → IsRead n (b ∷ bs) p
longer n b bs p some is grows later small =
    let low = digit_least b is in
    let high = digit_most b is in
    later small
    ∙ ap (λ (l : List ℕ). l ++ bs) (decimal_more n (b - 48) some (omega arith) (omega arith))
    ∙ append_assoc (decimal n) ((48 + (b - 48)) ∷ []) bs
    ∙ ap (λ x. decimal n ++ x ∷ bs) (digit_back b low)

pub digits_sound : (n : ℕ) (bs : List ℕ) → 0 < n → IsRead n bs (digits_from n bs)
digits_sound n [] some = λ small. refl
digits_sound n (b ∷ bs) some = elim (is_ascii_digit b) as
    (λ v. is_ascii_digit b ≡ v → IsRead n (b ∷ bs) (cond v (digits_from (10 * n + (b - 48)) bs) (n, b ∷ bs))) [
      | true ↦ λ is. longer n b bs _ some is (digits_grow (10 * n + (b - 48)) bs)
          (digits_sound (10 * n + (b - 48)) bs (omega arith))
      | false ↦ λ is small. refl
    ] refl

-- the digits of a number are those that are read
next_digit : (m n d : ℕ) (rest : List ℕ) → d < 10 → 10 * m + d ≡ n
    → digits_from m ((48 + d) ∷ rest) ≡ digits_from n rest
next_digit m n d rest small is = rw (digit_test d small) (ap (λ k. digits_from k rest) (total m n d is))
  where
    total : (m n d : ℕ) → 10 * m + d ≡ n → 10 * m + (48 + d - 48) ≡ n
    total m n d is = omega arith

abbrev AreDigitsOf : ℕ → List ℕ → Type 0
AreDigitsOf n ds = (rest : List ℕ) → digits_from 0 (ds ++ rest) ≡ digits_from n rest

last_digit : (n : ℕ) (ds : List ℕ) → 10 ≤ n → AreDigitsOf (n / 10) ds → AreDigitsOf n (ds ++ (48 + n % 10) ∷ [])
last_digit n ds large before rest =
    ap (digits_from 0) (append_assoc ds ((48 + n % 10) ∷ []) rest) ∙ before ((48 + n % 10) ∷ rest)
    ∙ next_digit (n / 10) n (n % 10) rest (omega arith) (omega arith)

pub digits_complete : (n : ℕ) → n < 2 ^ 64 → AreDigitsOf n (decimal n)
digits_complete n fits =
    decimal_by_steps AreDigitsOf (λ n small rest. next_digit 0 n n rest small (omega arith)) last_digit n fits

pub digits_stop : (n : ℕ) (rest : List ℕ) → is_ascii_digit (get_or rest 0 0) ≡ false → digits_from n rest ≡ (n, rest)
digits_stop n [] h = refl
digits_stop n (b ∷ bs) h = rw h refl

-- one more digit makes it too large
up_to_none : (limit : ℕ) (p : ℕ × List ℕ) → limit < p.0 → up_to limit p ≡ None
up_to_none limit p h = rw (lt-leb p.0 limit h) refl

digit_read : (v : ℕ) (b : ℕ) (bs : List ℕ) → is_ascii_digit b ≡ true
    → digits_from v (b ∷ bs) ≡ digits_from (10 * v + (b - 48)) bs
digit_read v b bs h = rw h refl

pub too_large : (limit v : ℕ) (bs : List ℕ) (i : ℕ) (whole : ℕ × List ℕ) → i < length bs
    → is_ascii_digit (get_or bs i 0) ≡ true → limit < 10 * v + (get_or bs i 0 - 48)
    → digits_from v (drop i bs) ≡ whole → up_to limit whole ≡ None
too_large limit v bs i whole lt digit large is =
    let more = sym is ∙ ap (digits_from v) (drop-cons bs i 0 lt)
    ∙ digit_read v (get_or bs i 0) (drop (suc i) bs) digit in
    ap (up_to limit) more
    ∙ up_to_none limit (digits_from (10 * v + (get_or bs i 0 - 48)) (drop (suc i) bs))
    (omega (arith, digits_grow (10 * v + (get_or bs i 0 - 48)) (drop (suc i) bs)))

-- a number's text begins with a digit
first_longer : (n : ℕ) (ds : List ℕ) → is_ascii_digit (get_or ds 0 0) ≡ true
    → is_ascii_digit (get_or (ds ++ (48 + n % 10) ∷ []) 0 0) ≡ true
first_longer n [] before = digit_test (n % 10) (omega arith)
first_longer n (d ∷ ds) before = before

pub first_digit : (n : ℕ) → n < 2 ^ 64 → is_ascii_digit (get_or (decimal n) 0 0) ≡ true
first_digit n fits =
    decimal_by_steps (λ n ds. is_ascii_digit (get_or ds 0 0) ≡ true) (λ n small. digit_test n small)
    (λ n ds large before. first_longer n ds before) n fits

-- a number is read back
up_to_some : (limit : ℕ) (p : ℕ × List ℕ) → p.0 ≤ limit → up_to limit p ≡ Some p
up_to_some limit p h = rw (le-leb p.0 limit h) refl

both_tests : {A : Type 0} (a b : Bool) (x : Option A) → a ≡ true → b ≡ false → cond (a && not b) x None ≡ x
both_tests a b x p q = rw (p, q) refl

read_first : (limit n : ℕ) (rest ds : List ℕ) → n ≤ limit → 0 < length ds → is_ascii_digit (get_or ds 0 0) ≡ true
    → 48 < get_or ds 0 0 → digits_from 0 (ds ++ rest) ≡ (n, rest) → number_in limit (ds ++ rest) ≡ Some (n, rest)
unfolding number_in
read_first limit n rest [] within long digit above is = absurd (omega arith)
read_first limit n rest (d ∷ ds) within long digit above is =
    both_tests (is_ascii_digit d) (eqb d 48) (up_to limit (digits_from 0 (d ∷ ds ++ rest))) digit
    (ne_eqb d 48 (differs d above))
    ∙ ap (up_to limit) is ∙ up_to_some limit (n, rest) within
  where
    differs : (d : ℕ) → 48 < d → d ≡ 48 → ⊥
    differs d above e = omega arith

pub number_complete : (limit n : ℕ) (rest : List ℕ) → 0 < n → n ≤ limit → n < 2 ^ 64
    → is_ascii_digit (get_or rest 0 0) ≡ false → number_in limit (decimal n ++ rest) ≡ Some (n, rest)
number_complete limit n rest some within fits stop =
    read_first limit n rest (decimal n) within (decimal_nonempty n fits) (first_digit n fits)
    (first_decimal n some fits) (digits_complete n fits rest ∙ digits_stop n rest stop)

-- what was read is a number's text
up_to_is : (limit : ℕ) (p q : ℕ × List ℕ) → up_to limit p ≡ Some q → (p ≡ q) × (p.0 ≤ limit)
up_to_is limit p q h = elim (leb p.0 limit) as
    (λ v. leb p.0 limit ≡ v → cond v (Some p) None ≡ Some q → (p ≡ q) × (p.0 ≤ limit)) [
      | true ↦ λ is e. (same_Some _ _ e, leb-true p.0 limit is)
      | false ↦ λ is e. absurd (none-some _ e)
    ] refl h

abbrev pub IsNumberBefore : ℕ → List ℕ → ℕ → List ℕ → Type 0
IsNumberBefore limit bytes n rest = (decimal n ++ rest ≡ bytes) × (0 < n) × (n ≤ limit)

within : (limit b m : ℕ) (bs : List ℕ) (n : ℕ) (rest : List ℕ) (p : ℕ × List ℕ) → limit < 2 ^ 64 → 48 + m ≡ b → 0 < m
    → m < 10 → m ≤ p.0 → IsRead m bs p → up_to limit p ≡ Some (n, rest) → IsNumberBefore limit (b ∷ bs) n rest
within limit b m bs n rest p fits is some small grows read e =
    let q = up_to_is limit p (n, rest) e in (
      ap (λ (x : ℕ × List ℕ). decimal x.0 ++ x.1) (sym q.0) ∙ read (omega (arith, q.1))
          ∙ ap (λ (l : List ℕ). l ++ bs) (decimal_digit m small) ∙ ap (λ x. x ∷ bs) is,
      positive m p.0 n some grows (ap (λ (x : ℕ × List ℕ). x.0) q.0),
      least p.0 n q.1 (ap (λ (x : ℕ × List ℕ). x.0) q.0),
    )
  where
    positive : (m a n : ℕ) → 0 < m → m ≤ a → a ≡ n → 0 < n
    positive m a n h g e = omega arith

    least : (a n : ℕ) → a ≤ limit → a ≡ n → n ≤ limit
    least a n h e = omega arith

first_read : (limit b : ℕ) (bs : List ℕ) (n : ℕ) (rest : List ℕ) → limit < 2 ^ 64 → is_ascii_digit b ≡ true
    → eqb b 48 ≡ false → up_to limit (digits_from 0 (b ∷ bs)) ≡ Some (n, rest) → IsNumberBefore limit (b ∷ bs) n rest
first_read limit b bs n rest fits digit other is =
    let low = digit_least b digit in
    let high = digit_most b digit in
    within limit b (10 * 0 + (b - 48)) bs n rest (digits_from (10 * 0 + (b - 48)) bs) fits (back b low)
    (start b low (eqb-false b 48 other)) (small b high) (digits_grow _ bs)
    (digits_sound (10 * 0 + (b - 48)) bs (start b low (eqb-false b 48 other)))
    (sym (ap (λ v. up_to limit (cond v (digits_from (10 * 0 + (b - 48)) bs) (0, b ∷ bs))) digit) ∙ is)
  where
    back : (b : ℕ) → 48 ≤ b → 48 + (10 * 0 + (b - 48)) ≡ b
    back b low = omega arith

    start : (b : ℕ) → 48 ≤ b → (b ≡ 48 → ⊥) → 0 < 10 * 0 + (b - 48)
    start b low differs = omega (arith, differs)

    small : (b : ℕ) → b ≤ 57 → 10 * 0 + (b - 48) < 10
    small b high = omega arith

pub number_sound : (limit : ℕ) (bytes : List ℕ) (n : ℕ) (rest : List ℕ) → limit < 2 ^ 64
    → number_in limit bytes ≡ Some (n, rest) → IsNumberBefore limit bytes n rest
unfolding number_in
number_sound limit [] n rest fits h = absurd (none-some _ h)
number_sound limit (b ∷ bs) n rest fits h = elim (is_ascii_digit b) as
    (λ a. is_ascii_digit b ≡ a → cond (a && not (eqb b 48)) (up_to limit (digits_from 0 (b ∷ bs))) None
    ≡ Some (n, rest) → IsNumberBefore limit (b ∷ bs) n rest) [
      | true ↦ λ digit e. elim (eqb b 48) as (λ c. eqb b 48 ≡ c
          → cond (not c) (up_to limit (digits_from 0 (b ∷ bs))) None ≡ Some (n, rest)
          → IsNumberBefore limit (b ∷ bs) n rest) [
            | true ↦ λ zero e. absurd (none-some _ e)
            | false ↦ λ other e. first_read limit b bs n rest fits digit other e
          ] refl e
      | false ↦ λ digit e. absurd (none-some _ e)
    ] refl h

pub number_zero : (limit : ℕ) (bs : List ℕ) → number_in limit (48 ∷ bs) ≡ None
unfolding number_in
number_zero limit bs = refl
