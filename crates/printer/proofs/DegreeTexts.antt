-- The terms of one coefficient, degree by degree.
use Rattle.std.proofs.Common.{◌≡◌, ℕ, zero, suc, ◌+◌, ◌-◌, ◌≤◌, Bool, true, false, ◌||◌, List, [], ◌++◌, Option}
use Rattle.std.proofs.Common.{append_assoc, refl, sym, ◌∙◌, ap, arith}
use Rattle.std.proofs.lemmas.List.{append-nil, map-append}
use Rattle.ps_model.specs.BlockText.{term_text}
use Rattle.ps_model.specs.Keys.{Key}
use Rattle.parts.specs.PartValue.{PartValue}
use Rattle.printer.specs.Lines.{texts_of, listed, has_texts}
use Rattle.printer.specs.Rows.{terms_in, terms_up_to}
use Rattle.printer.proofs.Pieces.{IsLeft}
use Rattle.printer.proofs.TermTexts.{has_texts-append, listed-append}

-- the terms of n degrees from r on
abbrev pub terms_from : (ℕ → PartValue) → ℕ → ℕ → List (Key 8 × ℕ)
terms_from part r zero = []
terms_from part r (suc n) = terms_in (part r) ++ terms_from part (suc r) n

terms_from-last : (part : ℕ → PartValue) (r n : ℕ)
    → terms_from part r (suc n) ≡ terms_from part r n ++ terms_in (part (r + n))
terms_from-last part r zero = append-nil (terms_in (part r)) ∙ ap (λ k. terms_in (part k)) (omega arith)
terms_from-last part r (suc n) = ap (λ ts. terms_in (part r) ++ ts) (terms_from-last part (suc r) n)
    ∙ sym (append_assoc (terms_in (part r)) (terms_from part (suc r) n) (terms_in (part (suc r + n))))
    ∙ ap (λ k. terms_in (part r) ++ terms_from part (suc r) n ++ terms_in (part k)) (moved r n)
  where
    moved : (r n : ℕ) → suc r + n ≡ r + suc n
    moved r n = omega arith

from_start : (part : ℕ → PartValue) (D : ℕ) → terms_up_to part D ≡ terms_from part 0 (suc D)
from_start part zero = sym (append-nil (terms_in (part 0)))
from_start part (suc d) = ap (λ ts. ts ++ terms_in (part (suc d))) (from_start part d)
    ∙ ap (λ k. terms_from part 0 (suc d) ++ terms_in (part k)) (from_zero (suc d))
    ∙ sym (terms_from-last part 0 (suc d))
  where
    from_zero : (n : ℕ) → n ≡ 0 + n
    from_zero n = omega arith

module _ (names : List (List ℕ)) (part : ℕ → PartValue) (D : ℕ) where
  abbrev pub whole : List (List ℕ)
  whole = texts_of names (terms_up_to part D)

  -- the texts of the degrees from r to D
  abbrev pub texts_from : ℕ → List (List ℕ)
  texts_from r = texts_of names (terms_from part r (D + 1 - r))

  -- the texts of degree r
  abbrev pub texts_at : ℕ → List (List ℕ)
  texts_at r = texts_of names (terms_in (part r))

  pub all_from : texts_from 0 ≡ whole
  all_from = ap (λ n. texts_of names (terms_from part 0 n)) (one_more D) ∙ ap (texts_of names) (sym (from_start part D))
    where
      one_more : (d : ℕ) → d + 1 - 0 ≡ suc d
      one_more d = omega arith

  pub next_texts : (r : ℕ) → r ≤ D → texts_from r ≡ texts_at r ++ texts_from (r + 1)
  next_texts r le = ap (λ n. texts_of names (terms_from part r n)) (count r D le)
      ∙ map-append (term_text names) (terms_in (part r)) (terms_from part (suc r) (D - r))
      ∙ (λ i. texts_at r ++ texts_of names (terms_from part (next r i) (left r D le i)))
    where
      count : (r d : ℕ) → r ≤ d → d + 1 - r ≡ suc (d - r)
      count r d le = omega arith

      next : (r : ℕ) → suc r ≡ r + 1
      next r = omega arith

      left : (r d : ℕ) → r ≤ d → d - r ≡ d + 1 - (r + 1)
      left r d le = omega arith

  pub none_from : (r : ℕ) → r ≡ D + 1 → texts_from r ≡ []
  none_from r is = ap (λ n. texts_of names (terms_from part r n)) (none r D is)
    where
      none : (r d : ℕ) → r ≡ d + 1 → d + 1 - r ≡ 0
      none r d is = omega arith

  -- the degrees from r on are left, and whether some terms were written is known
  pub record IsRowFrom (old now : Option (List ℕ)) (before count : ℕ) (held kept : List ℕ) (r : ℕ) (some : Bool) :
      Type 0 where
    pub left : IsLeft old now before count held kept (listed false whole) (listed some (texts_from r))
    pub behind : has_texts whole ≡ some || has_texts (texts_from r)

  -- the text that is left, with that of degree r first
  pub degree_left : (r : ℕ) (some : Bool) (us : List (List ℕ)) → r ≤ D → us ≡ texts_at r
      → listed some (texts_from r) ≡ listed some us ++ listed (some || has_texts us) (texts_from (r + 1))
  degree_left r some us le is = ap (listed some) (next_texts r le ∙ ap (λ ts. ts ++ texts_from (r + 1)) (sym is))
      ∙ listed-append some us (texts_from (r + 1))

  pub behind_more : (r : ℕ) (some after : Bool) (us : List (List ℕ)) → r ≤ D → us ≡ texts_at r
      → after ≡ some || has_texts us → has_texts whole ≡ some || has_texts (texts_from r)
      → has_texts whole ≡ after || has_texts (texts_from (r + 1))
  behind_more r some after us le is told so_far =
      so_far ∙ ap (λ b. some || b) (ap has_texts (next_texts r le ∙ ap (λ ts. ts ++ texts_from (r + 1)) (sym is))
      ∙ has_texts-append us (texts_from (r + 1))) ∙ either some (has_texts us) (has_texts (texts_from (r + 1)))
      ∙ ap (λ b. b || has_texts (texts_from (r + 1))) (sym told)
    where
      either : (a b c : Bool) → a || (b || c) ≡ (a || b) || c
      either true b c = refl
      either false b c = refl
