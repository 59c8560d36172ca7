-- One token of a text, and those behind it.
use Rattle.std.proofs.Common.{◌≡◌, ℕ, zero, suc, ◌+◌, ◌-◌, ◌*◌, ◌<◌, ◌≤◌, ◌^◌, Bool, true, false, ◌==◌, nat_lt, cond}
use Rattle.std.proofs.Common.{List, [], ◌∷◌, length, take, drop, get_or, refl, ap, sym, ◌∙◌, arith, drop-cons}
use Rattle.std.proofs.Common.{add-one, Option, Some, None, codes}
use Rattle.std.proofs.lemmas.Grind.{common_steps}
use Rattle.std.proofs.lemmas.List.{drop-drop}
use Rattle.std.proofs.lemmas.List.Sums.{take_while-cons}
use Rattle.std.specs.Prelude.{take_while}
use Rattle.std.specs.Char.{is_ascii_digit, is_ascii_alphabetic, digit_value}
use Rattle.std.specs.List.{position}
use Rattle.std.specs.Str.{bytes_eq}
use Rattle.std.specs.Str.Parse.{digits_value, digits_value_after}
use Rattle.ps_model.specs.Tokens.{Token, tokens, is_blank, token_at, more_bytes, number_token, word_token}
use Rattle.ps_model.specs.Tokens.{symbol_token, named, Placed, is_end}
use Rattle.ps_model.specs.Tokens as tok
use Rattle.grammar.specs.Digits.{AreDigits}
use Rattle.grammar.specs.Ahead.{behind}
use Rattle.ps_model.specs.Names.{is_name_byte}

pub digits_value_after-ge : (n : ℕ) (ds : List ℕ) → n ≤ digits_value_after 10 n ds
digits_value_after-ge n [] = omega arith
digits_value_after-ge n (d ∷ ds) = omega (arith, digits_value_after-ge (n * 10 + digit_value d) ds)

pub too_large : (n d : ℕ) (ds all : List ℕ) → 2 ^ 64 ≤ n * 10 + digit_value d → digits_value_after 10 n
    (d ∷ ds) ≡ digits_value 10 all → tok.TooLarge ≡ number_token all
too_large n d ds all h same =
    let big : 2 ^ 64 ≤ digits_value 10 all = omega (arith, digits_value_after-ge (n * 10 + digit_value d) ds, same) in
    let e : nat_lt (digits_value 10 all) (2 ^ 64) ≡ false = grind (arith, common_steps) in
    rw e refl

pub digit_value-digit : (d : ℕ) → is_ascii_digit d ≡ true → (48 ≤ d) × (digit_value d ≡ d - 48)
digit_value-digit d h = grind (arith, common_steps)

-- a run that was taken is the run
pub take_run : (p : ℕ → Bool) (xs : List ℕ) → take (length (take_while p xs)) xs ≡ take_while p xs
take_run p [] = refl
take_run p (x ∷ xs) = rw take_while-cons (elim (p x) as
    (λ b. take (length (cond b (x ∷ take_while p xs) [])) (x ∷ xs) ≡ cond b (x ∷ take_while p xs) []) [
      | true ↦ ap
          (λ (ys : List ℕ). x ∷ ys) (take_run p xs)
      | false ↦ refl
    ])

digits_cond : (b : Bool) (x : ℕ) (xs : List ℕ) → is_ascii_digit x ≡ b → AreDigits xs → AreDigits (cond b (x ∷ xs) [])
digits_cond true x xs is h = (is, h)
digits_cond false x xs is h = tt

pub AreDigits-run : (xs : List ℕ) → AreDigits (take_while is_ascii_digit xs)
AreDigits-run [] = tt
AreDigits-run (x ∷ xs) = rw take_while-cons (digits_cond (is_ascii_digit x) x (take_while is_ascii_digit xs) refl
    (AreDigits-run xs))

length_cond : (b : Bool) (x : ℕ) (xs : List ℕ) (n : ℕ) → length xs ≤ n → length (cond b (x ∷ xs) []) ≤ suc n
length_cond true x xs n h = omega arith
length_cond false x xs n h = omega arith

pub run-le : (p : ℕ → Bool) (xs : List ℕ) → length (take_while p xs) ≤ length xs
run-le p [] = omega arith
run-le p (x ∷ xs) = rw take_while-cons (length_cond (p x) x (take_while p xs) (length xs) (run-le p xs))

-- bytes that belong to the token before are passed over
pub tokens-skip : (names : List (List ℕ)) (place skip : ℕ) (bs : List ℕ) → skip ≤ length bs →
    tokens names place skip bs ≡ tokens names (place + skip) 0 (drop skip bs)
tokens-skip names place zero bs h = let e : place ≡ place + 0 = omega arith in ap (λ p. tokens names p 0 bs) e
tokens-skip names place (suc skip) [] h = absurd (omega arith)
tokens-skip names place (suc skip) (b ∷ bs) h =
    let e : place + 1 + skip ≡ place + suc skip = omega arith in
    tokens-skip names (place + 1) skip bs (omega arith) ∙ ap (λ p. tokens names p 0 (drop skip bs)) e

le_cond : (b : Bool) (m n k : ℕ) → m ≤ k → n ≤ k → cond b m n ≤ k
le_cond true m n k h g = h
le_cond false m n k h g = g

more_bytes-le : (b : ℕ) (bs : List ℕ) → more_bytes b bs ≤ length bs
more_bytes-le b bs = le_cond (is_ascii_digit b) _ _ _ (run-le is_ascii_digit bs)
    (le_cond (is_ascii_alphabetic b) _ _ _ (run-le is_name_byte bs) (omega arith))

end_cond : (b : Bool) (s t : Token) → is_end s ≡ false → is_end t ≡ false → is_end (cond b s t) ≡ false
end_cond true s t h g = h
end_cond false s t h g = g

end_named : (o : Option ℕ) → is_end (named o) ≡ false
end_named None = refl
end_named (Some i) = refl

pub token_at-is_end : (names : List (List ℕ)) (b : ℕ) (bs : List ℕ) → is_end (token_at names b bs) ≡ false
token_at-is_end names b bs =
    end_cond (is_ascii_digit b) _ _ (end_cond (nat_lt (digits_value 10 (b ∷ take_while is_ascii_digit bs))
    (2 ^ 64)) _ _ refl refl)
    (end_cond (is_ascii_alphabetic b) _ _ (end_cond (bytes_eq (b ∷ take_while is_name_byte bs) (codes "Y")) _ _ refl
    (end_named (position (bytes_eq (b ∷ take_while is_name_byte bs)) names)))
    (end_cond (b == 43) _ _ refl (end_cond (b == 45) _ _ refl
    (end_cond (b == 42) _ _ refl (end_cond (b == 47) _ _ refl
    (end_cond (b == 94) _ _ refl (end_cond (b == 40) _ _ refl (end_cond (b == 41) _ _ refl refl))))))))

visible_step : (names : List (List ℕ)) (place b : ℕ) (bs : List ℕ) → is_blank b ≡ false →
    tokens names place 0 (b ∷ bs) ≡ record { place = place; token = token_at names b bs } ∷ tokens names (place + 1)
    (more_bytes b bs) bs
visible_step names place b bs visible = ap (λ (x : Bool). cond x (tokens names (place + 1) 0 bs)
    (record { place = place; token = token_at names b bs } ∷ tokens names (place + 1) (more_bytes b bs) bs)) visible

pub scanned : (names : List (List ℕ)) (text : List ℕ) (place next : ℕ) (token : Token) → place < length text → is_blank
    (get_or text place 0) ≡ false →
    token ≡ token_at names (get_or text place 0) (drop (suc place) text) → next ≡ suc place + more_bytes
    (get_or text place 0) (drop (suc place) text) →
    tokens names place 0 (drop place text) ≡ record { place = place; token = token } ∷ behind names token next text
scanned names text place next token within visible is end =
    let b = get_or text place 0 in
    let bs = drop (suc place) text in
    let m = more_bytes b bs in
    let goes_on : is_end token ≡ false = ap is_end is ∙ token_at-is_end names b bs in
    let opened : tokens names place 0 (drop place text) ≡ record {
      place = place;
      token =
          token_at names b bs;
    } ∷ tokens names (place + 1) m bs = ap (tokens names place 0)
    (drop-cons text place 0 within) ∙ visible_step names place b bs visible in
    let there : place + 1 + m ≡ next = omega arith in
    let where_next : suc place + m ≡ next = omega arith in
    let skipped : tokens names (place + 1) m bs ≡ tokens names next 0 (drop next text) =
    tokens-skip names (place + 1) m bs (more_bytes-le b bs) ∙ ap (λ p. tokens names p 0 (drop m bs)) there ∙ ap
    (tokens names next 0) (drop-drop m (suc place) text ∙ ap (λ p. drop p text) where_next) in
    let closed : behind names token next text ≡ tokens names next 0 (drop next text) = ap
    (λ (x : Bool). cond x [] (tokens names next 0 (drop next text))) goes_on in
    opened ∙ ap (λ (t : Token). record { place = place; token = t } ∷ tokens names (place + 1) m bs) (sym is) ∙ ap
    (λ (ps : List Placed). record { place = place; token = token } ∷ ps) (skipped ∙ sym closed)

-- the bytes of a token that is a run
pub run_slice : (p : ℕ → Bool) (text : List ℕ) (place next : ℕ) → place < length text → next ≡ place + 1 + length
    (take_while p (drop (place + 1) text)) →
    take (next - place) (drop place text) ≡ get_or text place 0 ∷ take_while p (drop (suc place) text)
run_slice p text place next within end =
    let r = length (take_while p (drop (suc place) text)) in
    let end' : next ≡ place + 1 + r = end ∙ ap (λ k. place + 1 + length (take_while p (drop k text))) (add-one place) in
    let long : next - place ≡ suc r = omega arith in
    ap (λ n. take n (drop place text)) long ∙ ap (take (suc r)) (drop-cons text place 0 within) ∙ ap
    (λ (ys : List ℕ). get_or text place 0 ∷ ys) (take_run p (drop (suc place) text))

chosen_true : {A : Type 0} (b : Bool) (x y z : A) → b ≡ true → z ≡ x → z ≡ cond b x y
chosen_true b x y z h e = rw h e

chosen_false : {A : Type 0} (b : Bool) (x y z : A) → b ≡ false → z ≡ y → z ≡ cond b x y
chosen_false b x y z h e = rw h e

module _ (names : List (List ℕ)) (text : List ℕ) (place next : ℕ) (token : Token) (within : place < length text)
    (visible : is_blank (get_or text place 0) ≡ false) where
  pub scanned_number : is_ascii_digit (get_or text place 0) ≡ true → next ≡ place + 1 + length
      (take_while is_ascii_digit (drop (place + 1) text)) →
      token ≡ number_token (take (next - place) (drop place text)) → tokens names place 0
      (drop place text) ≡ record { place = place; token = token } ∷ behind names token next text
  scanned_number digit end is =
      scanned names text place next token within visible
      (chosen_true (is_ascii_digit (get_or text place 0)) _ _ token digit
      (is ∙ ap number_token (run_slice is_ascii_digit text place next within end)))
      (end ∙ ap (λ k. place + 1 + length (take_while is_ascii_digit (drop k text))) (add-one place) ∙ ap
      (λ k. k + length (take_while is_ascii_digit (drop (suc place) text))) (add-one place)
      ∙ ap (λ m. suc place + m) (chosen_true (is_ascii_digit (get_or text place 0)) _ _ _ digit refl))

  pub scanned_word : is_ascii_digit (get_or text place 0) ≡ false → is_ascii_alphabetic (get_or text place 0) ≡ true →
      next ≡ place + 1 + length (take_while is_name_byte (drop (place + 1) text)) →
      token ≡ word_token names (take (next - place) (drop place text)) → tokens names place 0
      (drop place text) ≡ record { place = place; token = token } ∷ behind names token next text
  scanned_word digit letter end is =
      scanned names text place next token within visible
      (chosen_false (is_ascii_digit (get_or text place 0)) _ _ token digit
      (chosen_true (is_ascii_alphabetic (get_or text place 0)) _ _ token letter
      (is ∙ ap (word_token names) (run_slice is_name_byte text place next within end))))
      (end ∙ ap (λ k. place + 1 + length (take_while is_name_byte (drop k text))) (add-one place) ∙ ap
      (λ k. k + length (take_while is_name_byte (drop (suc place) text))) (add-one place)
      ∙ ap (λ m. suc place + m) (chosen_false (is_ascii_digit (get_or text place 0)) _ _ _ digit
      (chosen_true (is_ascii_alphabetic (get_or text place 0)) _ _ _ letter refl)))

  pub scanned_symbol : is_ascii_digit (get_or text place 0) ≡ false → is_ascii_alphabetic
      (get_or text place 0) ≡ false → next ≡ place + 1 →
      token ≡ symbol_token (get_or text place 0) → tokens names place 0
      (drop place text) ≡ record { place = place; token = token } ∷ behind names token next text
  scanned_symbol digit letter end is =
      let e : next ≡ suc place + 0 = omega arith in
      scanned names text place next token within visible
      (chosen_false (is_ascii_digit (get_or text place 0)) _ _ token digit
      (chosen_false (is_ascii_alphabetic (get_or text place 0)) _ _ token letter is))
      (e ∙ ap (λ m. suc place + m) (chosen_false (is_ascii_digit (get_or text place 0)) _ _ _ digit
      (chosen_false (is_ascii_alphabetic (get_or text place 0)) _ _ _ letter refl)))
