-- How the words of a text are cut off one by one.
use Rattle.std.proofs.Common.{◌≡◌, ◌∙◌, sym, ap, refl, subst, ℕ, Bool, true, false, cond, List, [], ◌∷◌, ◌++◌, length}
use Rattle.std.proofs.Common.{take, drop, suc, ◌<◌, arith}
use Rattle.std.proofs.lemmas.List.{append_assoc, append-nil}
use Rattle.ps_model.specs.Tokens.{is_blank}
use Rattle.script.specs.Words.{ended, words_behind, words, first_word_of, without_word, without_first_blanks}

-- blanks at the front say nothing
pub words-blanks : (text : List ℕ) → words (without_first_blanks text) ≡ words text
words-blanks [] = refl
words-blanks (b ∷ text) = by (is_blank b) refl (words-blanks text)
  where
    by : (x : Bool) → is_blank b ≡ x → words (without_first_blanks text) ≡ words text
        → words (without_first_blanks (b ∷ text)) ≡ words (b ∷ text)
    by true e rest =
        ap (λ y. words (cond y (without_first_blanks text) (b ∷ text))) e ∙ rest
        ∙ sym (ap (λ y. cond y (words text) (words_behind (b ∷ []) text)) e)
    by false e rest = ap (λ y. words (cond y (without_first_blanks text) (b ∷ text))) e

-- a word that was begun goes on up to the first blank
pub words-cut : (word text : List ℕ)
    → words_behind word text ≡ ended (word ++ first_word_of text) (words (without_word text))
words-cut word [] = ap (λ w. ended w []) (sym (append-nil word))
words-cut word (b ∷ text) = by (is_blank b) refl (words-cut (word ++ b ∷ []) text)
  where
    by : (x : Bool) → is_blank b ≡ x
        → words_behind (word ++ b ∷ []) text
        ≡ ended ((word ++ b ∷ []) ++ first_word_of text) (words (without_word text))
        → words_behind word (b ∷ text) ≡ ended (word ++ first_word_of (b ∷ text)) (words (without_word (b ∷ text)))
    by true e rest =
        ap (λ y. cond y (ended word (words text)) (words_behind (word ++ b ∷ []) text)) e
        ∙ ap (λ w. ended w (words text)) (sym (append-nil word))
        ∙ sym (ap (λ y. ended (word ++ cond y [] (b ∷ first_word_of text)) (cond y (words text)
        (words_behind (b ∷ []) text))) e)
        ∙ sym (ap (λ y. ended (word ++ first_word_of (b ∷ text)) (words (cond y (b ∷ text) (without_word text)))) e
        ∙ refl)
    by false e rest =
        ap (λ y. cond y (ended word (words text)) (words_behind (word ++ b ∷ []) text)) e ∙ rest
        ∙ ap (λ w. ended w (words (without_word text))) (append_assoc word (b ∷ []) (first_word_of text))
        ∙ sym (ap (λ y. ended (word ++ cond y [] (b ∷ first_word_of text))
        (words (cond y (b ∷ text) (without_word text)))) e)

-- the first word and what stands behind it
pub drop-first_word : (text : List ℕ) → drop (length (first_word_of text)) text ≡ without_word text
drop-first_word [] = refl
drop-first_word (b ∷ text) = by (is_blank b) refl (drop-first_word text)
  where
    by : (x : Bool) → is_blank b ≡ x → drop (length (first_word_of text)) text ≡ without_word text
        → drop (length (first_word_of (b ∷ text))) (b ∷ text) ≡ without_word (b ∷ text)
    by true e rest =
        ap (λ y. drop (length (cond y [] (b ∷ first_word_of text))) (b ∷ text)) e
        ∙ sym (ap (λ y. cond y (b ∷ text) (without_word text)) e)
    by false e rest =
        ap (λ y. drop (length (cond y [] (b ∷ first_word_of text))) (b ∷ text)) e ∙ rest
        ∙ sym (ap (λ y. cond y (b ∷ text) (without_word text)) e)

pub take-first_word : (text : List ℕ) → take (length (first_word_of text)) text ≡ first_word_of text
take-first_word [] = refl
take-first_word (b ∷ text) = by (is_blank b) refl (take-first_word text)
  where
    by : (x : Bool) → is_blank b ≡ x → take (length (first_word_of text)) text ≡ first_word_of text
        → take (length (first_word_of (b ∷ text))) (b ∷ text) ≡ first_word_of (b ∷ text)
    by true e rest =
        ap (λ y. take (length (cond y [] (b ∷ first_word_of text))) (b ∷ text)) e
        ∙ sym (ap (λ y. cond y [] (b ∷ first_word_of text)) e)
    by false e rest =
        ap (λ y. take (length (cond y [] (b ∷ first_word_of text))) (b ∷ text)) e
        ∙ ap (λ (w : List ℕ). b ∷ w) rest
        ∙ sym (ap (λ y. cond y [] (b ∷ first_word_of text)) e)

-- a text that begins with no blank begins with a word
starts : (text : List ℕ) → (without_first_blanks text ≡ [] → ⊥)
    → words (without_first_blanks text) ≡ first_word_of (without_first_blanks text)
    ∷ words (without_word (without_first_blanks text))
starts [] some = absurd (some refl)
starts (b ∷ text) some = by (is_blank b) refl (starts text)
  where
    Starts : List ℕ → Type 0
    Starts l = words l ≡ first_word_of l ∷ words (without_word l)

    visible : is_blank b ≡ false → Starts (b ∷ text)
    visible e =
        ap (λ y. cond y (words text) (words_behind (b ∷ []) text)) e ∙ words-cut (b ∷ []) text
        ∙ sym (ap (λ y. cond y [] (b ∷ first_word_of text) ∷ words (cond y (b ∷ text) (without_word text))) e)

    by : (x : Bool) → is_blank b ≡ x → ((without_first_blanks text ≡ [] → ⊥) → Starts (without_first_blanks text))
        → Starts (without_first_blanks (b ∷ text))
    by true e rest =
        let same : without_first_blanks text ≡ without_first_blanks (b ∷ text) =
        sym (ap (λ y. cond y (without_first_blanks text) (b ∷ text)) e) in
        subst Starts same (rest (λ none. some (sym same ∙ none)))
    by false e rest = subst Starts (sym (ap (λ y. cond y (without_first_blanks text) (b ∷ text)) e)) (visible e)

-- the words of a text whose blanks at the front are gone
pub no_words : (text seen : List ℕ) → seen ≡ without_first_blanks text → seen ≡ [] → words text ≡ []
no_words text seen is none = sym (words-blanks text) ∙ ap words (sym is ∙ none)

pub first_of_words : (text seen word behind : List ℕ) (n : ℕ) → seen ≡ without_first_blanks text → (seen ≡ [] → ⊥)
    → n ≡ length (first_word_of seen) → word ≡ take n seen → behind ≡ drop n seen
    → words text ≡ word ∷ words behind
first_of_words text seen word behind n is some end w d =
    sym (words-blanks text) ∙ starts text (λ none. some (is ∙ none))
    ∙ ap (λ l. first_word_of l ∷ words (without_word l)) (sym is)
    ∙ ap (λ (v : List ℕ). v ∷ words (without_word seen)) (sym (w ∙ ap (λ k. take k seen) end ∙ take-first_word seen))
    ∙ ap (λ l. word ∷ words l) (sym (d ∙ ap (λ k. drop k seen) end ∙ drop-first_word seen))

pub behind_first : (text seen behind : List ℕ) (n : ℕ) → seen ≡ without_first_blanks text
    → n ≡ length (first_word_of seen) → behind ≡ drop n seen → behind ≡ without_word (without_first_blanks text)
behind_first text seen behind n is end d =
    d ∙ ap (λ k. drop k seen) end ∙ drop-first_word seen ∙ ap without_word is

-- a word has a byte
pub some_bytes : (text seen : List ℕ) → seen ≡ without_first_blanks text → (seen ≡ [] → ⊥)
    → 0 < length (first_word_of seen)
some_bytes text seen is some =
    subst (λ l. 0 < length (first_word_of l)) (sym is) (visible text (λ none. some (is ∙ none)))
  where
    visible : (t : List ℕ) → (without_first_blanks t ≡ [] → ⊥) → 0 < length (first_word_of (without_first_blanks t))
    visible [] h = absurd (h refl)
    visible (b ∷ t) h = by (is_blank b) refl (visible t)
      where
        Seen : List ℕ → Type 0
        Seen l = 0 < length (first_word_of l)

        by : (x : Bool) → is_blank b ≡ x → ((without_first_blanks t ≡ [] → ⊥) → Seen (without_first_blanks t))
            → Seen (without_first_blanks (b ∷ t))
        by true e rest =
            let same : without_first_blanks t ≡ without_first_blanks (b ∷ t) =
            sym (ap (λ y. cond y (without_first_blanks t) (b ∷ t)) e) in
            subst Seen same (rest (λ none. h (sym same ∙ none)))
        by false e rest =
            let size : length (first_word_of (b ∷ t)) ≡ suc (length (first_word_of t)) =
            ap (λ y. length (cond y [] (b ∷ first_word_of t))) e in
            let more : 0 < length (first_word_of (b ∷ t)) = omega (arith, size) in
            subst Seen (sym (ap (λ y. cond y (without_first_blanks t) (b ∷ t)) e)) more
