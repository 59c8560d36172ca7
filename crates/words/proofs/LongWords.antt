-- What a long word is made of.
use Rattle.std.proofs.Common.{◌≡◌, ◌∙◌, sym, ap, ap₂, subst, refl, ℕ, ◌+◌, ◌<◌, ◌==◌, Bool, true, false, cond}
use Rattle.std.proofs.Common.{not, true≢false, eqb-true, List, [], ◌∷◌, ◌++◌, length, get_or, take, arith, Option}
use Rattle.std.proofs.Common.{Some, None, ◌||◌}
use Rattle.std.specs.Prelude.{option_and_then}
use Rattle.std.specs.List.{after_first, before_first, list_any, position_or_len}
use Rattle.std.proofs.lemmas.List.Sums.{split_at_first}
use Rattle.std.proofs.Math.Numerals.{one-add}
use Rattle.clap.specs.Lexer.{has_byte, long_of, long_of_rest, name_and_value, strip_byte}
use Rattle.clap.specs.Walk.{Text}
use Rattle.words.proofs.Plain.{either_false, some≢none, the_same}

abbrev is_equals : ℕ → Bool
is_equals x = x == 61

-- a place of the text where `=` stands
abbrev Equals : List ℕ → ℕ → Type 0
Equals xs n = (n < length xs) × (get_or xs n 0 ≡ 61)

next_equals : (x : ℕ) (xs : List ℕ) (n : ℕ) → Equals xs n → Equals (x ∷ xs) (1 + n)
next_equals x xs n h = subst (Equals (x ∷ xs)) (sym (one-add n)) (omega arith, h.1)

first_equals : (x : ℕ) (xs : List ℕ) (b : Bool) → (x == 61) ≡ b → (b || list_any is_equals xs) ≡ true
    → (list_any is_equals xs ≡ true → Equals xs (position_or_len is_equals xs))
    → Equals (x ∷ xs) (cond (not b) (1 + position_or_len is_equals xs) 0)
first_equals x xs true f e later = (omega arith, eqb-true x 61 f)
first_equals x xs false f e later = next_equals x xs (position_or_len is_equals xs) (later e)

-- the first `=` of a text
equals_at : (xs : List ℕ) → list_any is_equals xs ≡ true → Equals xs (position_or_len is_equals xs)
equals_at [] e = absurd (true≢false (sym e))
equals_at (x ∷ xs) e = first_equals x xs (x == 61) refl e (equals_at xs)

-- a text with `=` is what stands before the first one, `=`, and what stands behind it
cut_at_equals : (xs : List ℕ) → list_any is_equals xs ≡ true
    → xs ≡ before_first is_equals xs ++ 61 ∷ after_first is_equals xs
cut_at_equals xs e =
    let first = equals_at xs e in
    split_at_first is_equals xs 0 first.0 ∙ ap (λ c. before_first is_equals xs ++ c ∷ after_first is_equals xs) first.1

value_is : (b : Bool) (rest v : Text) → cond b (Some rest) None ≡ Some v → (b ≡ true) × (rest ≡ v)
value_is true rest v e = (refl, the_same rest v e)
value_is false rest v e = absurd (some≢none v (sym e))

no_value : (b : Bool) (rest : Text) → cond b (Some rest) None ≡ None → b ≡ false
no_value true rest e = absurd (some≢none rest e)
no_value false rest e = refl

joined_text : (text name v : Text) → name_and_value text ≡ (name, Some v) → text ≡ name ++ 61 ∷ v
joined_text text name v e =
    let value = value_is (has_byte 61 text) (after_first is_equals text) v (ap (λ p. p.1) e) in
    cut_at_equals text value.0 ∙ ap₂ (λ a b. a ++ 61 ∷ b) (ap (λ p. p.0) e) value.1

-- ---- the two hyphens

behind_hyphens : (rest : Text) (p : Text × Option Text) → long_of_rest rest ≡ Some p → name_and_value rest ≡ p
behind_hyphens [] p e = absurd (some≢none p (sym e))
behind_hyphens (x ∷ xs) p e = the_same (name_and_value (x ∷ xs)) p e

abbrev Long : Text → (Text × Option Text) → Type 0
Long word p = (rest : Text) × (word ≡ 45 ∷ 45 ∷ rest) × (name_and_value rest ≡ p)

second_hyphen : (x y : ℕ) (rest : Text) (p : Text × Option Text) (b : Bool) → x ≡ 45 → (y == 45) ≡ b
    → option_and_then long_of_rest (cond b (Some rest) None) ≡ Some p → Long (x ∷ y ∷ rest) p
second_hyphen x y rest p true e f g =
    (rest, ap₂ (λ a b. a ∷ b ∷ rest) e (eqb-true y 45 f), behind_hyphens rest p g)
second_hyphen x y rest p false e f g = absurd (some≢none p (sym g))

behind_first : (x : ℕ) (rest : Text) (p : Text × Option Text) → x ≡ 45
    → option_and_then long_of_rest (strip_byte 45 rest) ≡ Some p → Long (x ∷ rest) p
behind_first x [] p e g = absurd (some≢none p (sym g))
behind_first x (y ∷ rest) p e g = second_hyphen x y rest p (y == 45) e refl g

first_hyphen : (x : ℕ) (rest : Text) (p : Text × Option Text) (b : Bool) → (x == 45) ≡ b
    → option_and_then long_of_rest (option_and_then (strip_byte 45) (cond b (Some rest) None)) ≡ Some p
    → Long (x ∷ rest) p
first_hyphen x rest p true f g = behind_first x rest p (eqb-true x 45 f) g
first_hyphen x rest p false f g = absurd (some≢none p (sym g))

long_word_is : (word : Text) (p : Text × Option Text) → long_of word ≡ Some p → Long word p
long_word_is [] p e = absurd (some≢none p (sym e))
long_word_is (x ∷ rest) p e = first_hyphen x rest p (x == 45) refl e

-- `--name=v`
pub joined_word : (word name v : Text) → long_of word ≡ Some (name, Some v) → word ≡ 45 ∷ 45 ∷ (name ++ 61 ∷ v)
joined_word word name v e =
    let long = long_word_is word (name, Some v) e in
    long.1 ∙ ap (λ t. 45 ∷ 45 ∷ t) (joined_text long.0 name v long.2)

-- ---- a text without `=`

all_before : (xs : List ℕ) → list_any is_equals xs ≡ false → before_first is_equals xs ≡ xs
all_before [] e = refl
all_before (x ∷ xs) e = by_first (x == 61) (either_false (x == 61) (list_any is_equals xs) e).0
    (all_before xs (either_false (x == 61) (list_any is_equals xs) e).1)
  where
    by_first : (b : Bool) → b ≡ false → before_first is_equals xs ≡ xs
        → take (cond (not b) (1 + position_or_len is_equals xs) 0) (x ∷ xs) ≡ x ∷ xs
    by_first true e f = absurd (true≢false e)
    by_first false e f = ap (λ n. take n (x ∷ xs)) (one-add (position_or_len is_equals xs)) ∙ ap (λ t. x ∷ t) f

alone_text : (text name : Text) → name_and_value text ≡ (name, None) → text ≡ name
alone_text text name e =
    let none = no_value (has_byte 61 text) (after_first is_equals text) (ap (λ p. p.1) e) in
    sym (all_before text none) ∙ ap (λ p. p.0) e

-- `--name`
pub alone_word : (word name : Text) → long_of word ≡ Some (name, None) → word ≡ 45 ∷ 45 ∷ name
alone_word word name e =
    let long = long_word_is word (name, None) e in
    long.1 ∙ ap (λ t. 45 ∷ 45 ∷ t) (alone_text long.0 name long.2)
