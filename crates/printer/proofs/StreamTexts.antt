-- The lines of a stream, in the pieces in which they are written.
use Rattle.std.proofs.Common.{◌≡◌, ℕ, zero, suc, ◌+◌, ◌<◌, ◌≤◌, true, false, List, [], ◌∷◌, ◌++◌, Some, length}
use Rattle.std.proofs.Common.{get_or, take, map, append_assoc, refl, sym, ◌∙◌, ap, arith, add-one, lit<}
use Rattle.std.specs.Prelude.{codes, decimal}
use Rattle.std.specs.FinMap.{entries}
use Rattle.std.proofs.lemmas.List.{append-nil}
use Rattle.std.proofs.lemmas.Fmt.{decimal_digit}
use Rattle.ps_model.specs.BlockText.{newline, terms_of_degree}
use Rattle.ps_model.specs.Keys.{Key}
use Rattle.ps_model.specs.SeriesRing.{SeriesRing, Poly}
use Rattle.ps_model.specs.StreamText.{unless_none, lead_line, lines_of}
use Rattle.parts.specs.declared.terms.Term.{Term}
use Rattle.parts.specs.PartValue.{PartValue}
use Rattle.parts.specs.Rings.{variables_of}
use Rattle.parts.specs.RowsOfParts.{part_in}
use Rattle.parts.specs.Series.{series}
use Rattle.parts.specs.Terms.{entry_of, TermsInOrder}
use Rattle.printer.specs.Lines.{texts_of, listed, has_texts}
use Rattle.printer.specs.Rows.{terms_in}
use Rattle.printer.specs.Texts.{factor_to, lead_to}
use Rattle.printer.specs.View.{BlockValue, IsBlockValue, HasUpTo, each_alone, rows_of, part_at}
use Rattle.printer.proofs.PartTexts.{texts_at_degree}
use Rattle.printer.proofs.TermTexts.{terms_are_in, terms_some}
use Rattle.printer.proofs.ViewTexts.{no_root, lead_long, lead_row}

-- the line of texts behind its head, where there are some
abbrev pub lined : List ℕ → List (List ℕ) → List ℕ
lined head [] = []
lined head (text ∷ texts) = head ++ listed false (text ∷ texts) ++ newline

unless_none_is : {n : ℕ} (names : List (List ℕ)) (head : List ℕ) (ts : List (Key n × ℕ))
    → unless_none names head ts ≡ lined head (texts_of names ts)
unless_none_is names head [] = refl
unless_none_is names head (t ∷ ts) = ap (λ (l : List ℕ). head ++ l ++ newline) (terms_some names t ts)

pub lined_none : (head : List ℕ) (ts : List (List ℕ)) → has_texts ts ≡ false → lined head ts ≡ []
lined_none head [] none = refl
lined_none head (t ∷ ts) none = absurd (cc)

pub lined_some : (head : List ℕ) (ts : List (List ℕ)) → has_texts ts ≡ true
    → lined head ts ≡ head ++ (listed false ts ++ newline)
lined_some head [] some = absurd (cc)
lined_some head (t ∷ ts) some = append_assoc head (listed false (t ∷ ts)) newline

module _ (value : BlockValue) (names : List (List ℕ)) (is : IsBlockValue names value) (r : ℕ) (has : HasUpTo value r)
    (ts : List Term) (p : PartValue) (same : map entry_of ts ≡ entries p.map) (order : TermsInOrder ts) where
  -- the line of a lead's terms
  pub lead_line_is : p ≡ part_in value.lead r → lead_line (series value.ring) names (Some (lead_to value r)) r
      ≡ lined (codes "lead: ") (texts_of (take (variables_of value.ring) names) (map entry_of ts))
  lead_line_is part = unless_none_is names (codes "lead: ") (terms_of_degree (series value.ring) (lead_to value r) 0 r)
      ∙ ap (lined (codes "lead: ")) (texts_at_degree value.ring names 0 r (each_alone value.lead) is.lead_parts
      (lead_long value names is r has) 0 r (omega arith) (omega arith)
      ∙ ap (texts_of (take (variables_of value.ring) names)) (ap terms_in (lead_row value.lead r)
      ∙ sym (terms_are_in ts p (part_in value.lead r) same order part)))

  -- the line of a factor's terms at Y^j
  pub part_line_is : (i j : ℕ) (head : List ℕ) → i < length value.roots → j ≤ (get_or value.roots i no_root).times
      → p ≡ part_at value i j r → unless_none names head (terms_of_degree (series value.ring) (factor_to value r i) j r)
      ≡ lined head (texts_of (take (variables_of value.ring) names) (map entry_of ts))
  part_line_is i j head lt le part = unless_none_is names head
      (terms_of_degree (series value.ring) (factor_to value r i) j r)
      ∙ ap (lined head) (texts_at_degree value.ring names (get_or value.roots i no_root).times r (rows_of value i)
      (is.rows i no_root lt) (has.0 i lt) j r (omega arith) le
      ∙ ap (texts_of (take (variables_of value.ring) names))
      (sym (terms_are_in ts p (part_at value i j r) same order part)))

-- a line behind its head, piece by piece
grouped : (a b c d l e : List ℕ) → (a ++ b ++ c ++ d) ++ (l ++ e) ≡ a ++ ((b ++ c) ++ (d ++ (l ++ e)))
grouped a b c d l e = append_assoc (a ++ b ++ c) d (l ++ e)
    ∙ ap (λ (x : List ℕ). x ++ (d ++ (l ++ e))) (append_assoc a b c) ∙ append_assoc a (b ++ c) (d ++ (l ++ e))

pub power_pieces : (i number power other : ℕ) (ts us : List (List ℕ)) → number ≡ i → other ≡ power → ts ≡ us
    → has_texts ts ≡ true
    → lined (decimal (i + 1) ++ codes " Y^" ++ decimal power ++ codes ": ") ts
    ≡ decimal (number + 1) ++ ((codes " Y^" ++ decimal other) ++ (codes ": " ++ (listed false us ++ newline)))
power_pieces i number power other ts us same_i same_power same some =
    lined_some (decimal (i + 1) ++ codes " Y^" ++ decimal power ++ codes ": ") ts some
    ∙ grouped (decimal (i + 1)) (codes " Y^") (decimal power) (codes ": ") (listed false ts) newline
    ∙ (λ l. decimal (sym same_i l + 1) ++ ((codes " Y^" ++ decimal (sym same_power l))
    ++ (codes ": " ++ (listed false (same l) ++ newline))))

-- the line of a power of Y and those below it
module _ (S : SeriesRing) (names : List (List ℕ)) (r i : ℕ) (f : Poly S) where
  abbrev pub below : ℕ → List ℕ
  below zero = []
  below (suc j) = lines_of S names r i f j

  pub below_is : (j k : ℕ) → j ≡ k + 1 → below j ≡ lines_of S names r i f k
  below_is j k is = ap below (is ∙ add-one k)

  pub below_none : (j : ℕ) → j ≡ 0 → below j ≡ []
  below_none j is = ap below is

  zero_head : decimal i ++ codes " Y^0: " ≡ decimal i ++ codes " Y^" ++ decimal 0 ++ codes ": "
  zero_head = sym (ap (λ (l : List ℕ). decimal i ++ codes " Y^" ++ l ++ codes ": ") (decimal_digit 0 (lit< tt))
      ∙ plain (decimal i))
    where
      plain : (d : List ℕ) → d ++ codes " Y^" ++ codes "0" ++ codes ": " ≡ d ++ codes " Y^0: "
      plain d = append_assoc (d ++ codes " Y^") (codes "0") (codes ": ")
          ∙ append_assoc d (codes " Y^") (codes "0" ++ codes ": ")

  pub lines_left : (j : ℕ) → lines_of S names r i f j
      ≡ unless_none names (decimal i ++ codes " Y^" ++ decimal j ++ codes ": ") (terms_of_degree S f j r) ++ below j
  lines_left zero = ap (λ (head : List ℕ). unless_none names head (terms_of_degree S f 0 r)) zero_head
      ∙ sym (append-nil (unless_none names (decimal i ++ codes " Y^" ++ decimal 0 ++ codes ": ")
      (terms_of_degree S f 0 r)))
  lines_left (suc j) = refl
