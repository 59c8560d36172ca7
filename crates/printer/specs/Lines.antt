-- The lines of coefficients, from their parts.
--     texts_of names ts      the text of each term
--     sign some      the plus sign before a term, where some are written already
--     listed some texts      the texts, each with a plus sign before it; before the first one only where
--         some are written already
--     has_texts texts      whether there is a text
--     coefficient_line names D part j      the line of the coefficient of Y^j up to degree D, whose part of
--         degree r is part j r
--     coefficient_lines names D part j      the lines of the powers from j down to 0
use Rattle.std.specs.Prelude.{ℕ, zero, suc, if◌then◌else◌, Bool, true, false, List, [], ◌∷◌, ◌++◌, codes, decimal, map}
use Rattle.ps_model.specs.BlockText.{newline, term_text, terms_text}
use Rattle.ps_model.specs.Keys.{Key}
use Rattle.parts.specs.PartValue.{PartValue}
use Rattle.printer.specs.Rows.{terms_up_to}

abbrev pub texts_of : {n : ℕ} → List (List ℕ) → List (Key n × ℕ) → List (List ℕ)
texts_of names ts = map (term_text names) ts

abbrev pub sign : Bool → List ℕ
sign some = if some then codes " + " else []

abbrev pub listed : Bool → List (List ℕ) → List ℕ
listed some [] = []
listed some (text ∷ texts) = sign some ++ text ++ listed true texts

abbrev pub has_texts : List (List ℕ) → Bool
has_texts [] = false
has_texts (text ∷ texts) = true

module _ (names : List (List ℕ)) (D : ℕ) (part : ℕ → ℕ → PartValue) where
  abbrev pub coefficient_line : ℕ → List ℕ
  coefficient_line j =
      codes "Y^" ++ decimal j ++ codes ": " ++ terms_text names (terms_up_to (part j) D) ++ newline

  abbrev pub coefficient_lines : ℕ → List ℕ
  coefficient_lines zero = coefficient_line 0
  coefficient_lines (suc j) = coefficient_line (suc j) ++ coefficient_lines j
