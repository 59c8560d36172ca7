-- Texts that are written one after another.
use Rattle.std.proofs.Common.{◌≡◌, ℕ, zero, suc, ◌+◌, ◌-◌, ◌≤◌, List, [], ◌++◌, append_assoc, sym, ◌∙◌, ap, arith}
use Rattle.std.proofs.lemmas.List.{append-nil}
use Rattle.printer.specs.View.{BlockValue, HasUpTo}
use Rattle.session.specs.ViewTexts.{texts_up_to}

-- the lower degrees are there too
pub lower_known : (value : BlockValue) (r D : ℕ) → r ≤ D → HasUpTo value D → HasUpTo value r
lower_known value r D le up_to = (
  λ i low. let lt = up_to.0 i low in omega arith,
  let lt = up_to.1 in omega arith,
)

module _ (text : ℕ → List ℕ) where
  -- n texts from r on
  abbrev pub texts_from : ℕ → ℕ → List ℕ
  texts_from r zero = []
  texts_from r (suc n) = text r ++ texts_from (suc r) n

  texts_from-last : (r n : ℕ) → texts_from r (suc n) ≡ texts_from r n ++ text (r + n)
  texts_from-last r zero = append-nil (text r) ∙ ap text (omega arith)
  texts_from-last r (suc n) = ap (λ (l : List ℕ). text r ++ l) (texts_from-last (suc r) n)
      ∙ sym (append_assoc (text r) (texts_from (suc r) n) (text (suc r + n)))
      ∙ ap (λ k. text r ++ texts_from (suc r) n ++ text k) (moved r n)
    where
      moved : (r n : ℕ) → suc r + n ≡ r + suc n
      moved r n = omega arith

  from_start : (D : ℕ) → texts_up_to text D ≡ texts_from 0 (suc D)
  from_start zero = sym (append-nil (text 0))
  from_start (suc D) = ap (λ (l : List ℕ). l ++ text (suc D)) (from_start D)
      ∙ ap (λ k. texts_from 0 (suc D) ++ text k) (from_zero (suc D))
      ∙ sym (texts_from-last 0 (suc D))
    where
      from_zero : (n : ℕ) → n ≡ 0 + n
      from_zero n = omega arith

  module _ (D : ℕ) where
    -- those from r to D
    abbrev pub left_from : ℕ → List ℕ
    left_from r = texts_from r (D + 1 - r)

    pub all_left : texts_up_to text D ≡ left_from 0
    all_left = from_start D ∙ ap (texts_from 0) (one_more D)
      where
        one_more : (d : ℕ) → suc d ≡ d + 1 - 0
        one_more d = omega arith

    pub next_left : (r : ℕ) → r ≤ D → left_from r ≡ text r ++ left_from (r + 1)
    next_left r le = ap (texts_from r) (count r D le)
        ∙ (λ i. text r ++ texts_from (next r i) (left r D le i))
      where
        count : (r d : ℕ) → r ≤ d → d + 1 - r ≡ suc (d - r)
        count r d le = omega arith

        next : (r : ℕ) → suc r ≡ r + 1
        next r = omega arith

        left : (r d : ℕ) → r ≤ d → d - r ≡ d + 1 - (r + 1)
        left r d le = omega arith

    pub none_left : (r : ℕ) → D + 1 ≤ r → left_from r ≡ []
    none_left r past = ap (texts_from r) (none r D past)
      where
        none : (r d : ℕ) → d + 1 ≤ r → d + 1 - r ≡ 0
        none r d past = omega arith

-- a first piece, others, and a last line
pub in_pieces : (first middle a b : List ℕ) → first ++ middle ++ a ++ b ≡ first ++ (middle ++ (a ++ b))
in_pieces first middle a b = append_assoc (first ++ middle) a b ∙ append_assoc first middle (a ++ b)
