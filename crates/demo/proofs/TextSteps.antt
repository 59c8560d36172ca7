-- The lines of the factors, one after the other.
use Rattle.std.proofs.Common.{◌≡◌, ℕ, zero, suc, ◌+◌, ◌<◌, ◌≤◌, List, [], ◌∷◌, ◌++◌, length, take, drop, refl, sym}
use Rattle.std.proofs.Common.{◌∙◌, add-one, append_assoc, append-nil, ap, arith}
use Rattle.std.proofs.lemmas.List.{drop_more, get_or-map, length-map}
use Rattle.ps_model.specs.SeriesRing.{Poly, SeriesRing}
use Rattle.parts.specs.Series.{polynomial_of, series}
use Rattle.printer.specs.Texts.{factor_to, factors_to}
use Rattle.printer.specs.View.{BlockValue, IsBlockValue}
use Rattle.demo.specs.DemoText.{factor_line, factor_lines}

past : {X : Type 0} (xs : List X) (i : ℕ) → length xs ≤ i → drop i xs ≡ []
past [] zero le = refl
past [] (suc i) le = refl
past (x ∷ xs) zero le = absurd (omega arith)
past (x ∷ xs) (suc i) le = past xs i (omega arith)

-- the text so far, with the lines that are left
abbrev pub AreLeft : (S : SeriesRing) → List ℕ → List (Poly S) → ℕ → List ℕ → Type 0
AreLeft S head fs i text = text ++ factor_lines S (i + 1) (drop i fs) ≡ head ++ factor_lines S 1 fs

module _ (value : BlockValue) (names : List (List ℕ)) (is : IsBlockValue names value) where
  abbrev fs : List (Poly (series value.ring))
  fs = factors_to value 40

  many : length fs ≡ length value.roots
  many = length-map value.rows (λ rows. polynomial_of value.ring (take 41 rows)) ∙ is.factors

  factors_from : (i : ℕ) → i < length value.roots → drop i fs ≡ factor_to value 40 i ∷ drop (i + 1) fs
  factors_from i lt =
      let count = is.factors in
      let within : i < length value.rows = omega arith in
      drop_more fs i (factor_to value 40 i) (let all = many in omega arith)
      ∙ ap (λ f. f ∷ drop (i + 1) fs)
      (get_or-map (λ rows. polynomial_of value.ring (take 41 rows)) value.rows i [] (factor_to value 40 i) within)

  module _ (head : List ℕ) where
    pub lines_more : (i : ℕ) (text line : List ℕ) → i < length value.roots → AreLeft (series value.ring) head fs i text
        → line ≡ factor_line (series value.ring) (i + 1) (factor_to value 40 i)
        → AreLeft (series value.ring) head fs (i + 1) (text ++ line)
    lines_more i text line lt left line_is =
        append_assoc text line (factor_lines (series value.ring) (i + 1 + 1) (drop (i + 1) fs))
        ∙ ap (λ (l : List ℕ). text ++ (l ++ factor_lines (series value.ring) (i + 1 + 1) (drop (i + 1) fs))) line_is
        ∙ ap (λ n. text ++ (factor_line (series value.ring) (i + 1) (factor_to value 40 i)
        ++ factor_lines (series value.ring) n (drop (i + 1) fs))) (add-one (i + 1))
        ∙ ap (λ gs. text ++ factor_lines (series value.ring) (i + 1) gs) (sym (factors_from i lt))
        ∙ left

    pub lines_all : (i : ℕ) (text : List ℕ) → length value.roots ≤ i → AreLeft (series value.ring) head fs i text
        → text ≡ head ++ factor_lines (series value.ring) 1 fs
    lines_all i text le left = sym (append-nil text)
        ∙ ap (λ gs. text ++ factor_lines (series value.ring) (i + 1) gs)
        (sym (past fs i (let all = many in omega arith)))
        ∙ left

-- the pieces of the first line, as they are laid out
pub grouped : (a b c d e : List ℕ) → a ++ (b ++ (c ++ (d ++ e))) ≡ a ++ b ++ c ++ d ++ e
grouped a b c d e = simp append_assoc
