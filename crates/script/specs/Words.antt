-- Blanks and words of a line.
--     words text      the words between the blanks, none of them empty; a blank is a space or a tab
--     first_word_of text      the bytes before the first blank
--     without_word text      the text from its first blank on
--     without_first_blanks text      the text from its first byte on that is no blank
--     rest_of_line text      what stands behind the first word, without blanks at both ends
--     is_skipped text      there is no word, or the first one begins with `#`
use Rattle.std.specs.Prelude.{ℕ, ◌==◌, if◌then◌else◌, Bool, true, List, [], ◌∷◌, ◌++◌}
use Rattle.ps_model.specs.Tokens.{is_blank, without_blanks}

-- the word that was begun, where there is one, before other words
abbrev pub ended : List ℕ → List (List ℕ) → List (List ℕ)
ended [] ws = ws
ended (b ∷ word) ws = (b ∷ word) ∷ ws

abbrev pub words_behind : List ℕ → List ℕ → List (List ℕ)
words_behind word [] = ended word []
words_behind word (b ∷ text) =
    if is_blank b then ended word (words_behind [] text) else words_behind (word ++ b ∷ []) text

abbrev pub words : List ℕ → List (List ℕ)
words text = words_behind [] text

abbrev pub first_word_of : List ℕ → List ℕ
first_word_of [] = []
first_word_of (b ∷ text) = if is_blank b then [] else b ∷ first_word_of text

abbrev pub without_word : List ℕ → List ℕ
without_word [] = []
without_word (b ∷ text) = if is_blank b then b ∷ text else without_word text

abbrev pub without_first_blanks : List ℕ → List ℕ
without_first_blanks [] = []
without_first_blanks (b ∷ text) = if is_blank b then without_first_blanks text else b ∷ text

abbrev pub rest_of_line : List ℕ → List ℕ
rest_of_line text = without_blanks (without_first_blanks (without_word (without_first_blanks text)))

abbrev pub begins_comment : List ℕ → Bool
begins_comment [] = true
begins_comment (b ∷ text) = b == 35

abbrev pub is_skipped : List ℕ → Bool
is_skipped text = begins_comment (without_first_blanks text)
