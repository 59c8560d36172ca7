-- The texts of a view's factors and lead, in the pieces in which they are written.
use Rattle.std.proofs.Common.{◌≡◌, ℕ, zero, suc, ◌+◌, ◌<◌, ◌≤◌, List, [], ◌∷◌, ◌++◌, Some, length}
use Rattle.std.proofs.Common.{get_or, take, drop, append_assoc, refl, sym, ◌∙◌, ap, subst, arith, add-one}
use Rattle.std.specs.Prelude.{codes, decimal, slice_get}
use Rattle.std.proofs.lemmas.List.{drop_more, get_or-map, length-map}
use Rattle.std.proofs.lemmas.Option.{slice_get_within, get_or_from_slice_get}
use Rattle.ps_model.specs.declared.job.Root.{Root}
use Rattle.ps_model.specs.BlockText.{newline, terms_text, factor_text, factor_texts, lead_text}
use Rattle.ps_model.specs.StreamText.{lines_of, lines_of_all}
use Rattle.parts.specs.PartValue.{PartValue}
use Rattle.parts.specs.Rings.{variables_of}
use Rattle.parts.specs.RowsOfParts.{part_in, AreRowsOfParts}
use Rattle.parts.specs.Series.{series, polynomial_of}
use Rattle.printer.specs.Lines.{coefficient_lines}
use Rattle.printer.specs.Rows.{listed_part, terms_in, terms_up_to}
use Rattle.printer.specs.Texts.{factor_to, factors_to, lead_to}
use Rattle.printer.specs.View.{BlockValue, IsBlockValue, HasUpTo, each_alone, rows_of, part_at}
use Rattle.printer.proofs.PartTexts.{terms_text_is, lines_are}

-- the part of a lead's row
pub lead_row : (parts : List PartValue) (r : ℕ) → listed_part (each_alone parts) 0 r ≡ part_in parts r
lead_row [] r = refl
lead_row (p ∷ parts) zero = refl
lead_row (p ∷ parts) (suc r) = lead_row parts r

lead_terms : (parts : List PartValue) (d : ℕ)
    → terms_up_to (listed_part (each_alone parts) 0) d ≡ terms_up_to (part_in parts) d
lead_terms parts zero = ap terms_in (lead_row parts 0)
lead_terms parts (suc d) = λ i. lead_terms parts d i ++ terms_in (lead_row parts (suc d) i)

-- what stands for a root past the last one
abbrev pub no_root : Root
no_root = record { value = 0; times = 0 }

-- what is there up to a degree is there below it
pub has_lower : (value : BlockValue) (d r : ℕ) → r ≤ d → HasUpTo value d → HasUpTo value r
has_lower value d r le has = (
  λ i lt. below r d (length (rows_of value i)) le (has.0 i lt),
  below r d (length value.lead) le has.1,
)
  where
    below : (a b c : ℕ) → a ≤ b → b < c → a < c
    below a b c le lt = omega arith

module _ (value : BlockValue) (names : List (List ℕ)) (is : IsBlockValue names value) (D : ℕ) (has : HasUpTo value D)
  where
    pub lead_long : D < length (each_alone value.lead)
    lead_long = let long = length-map value.lead (λ (p : PartValue). p ∷ []) in let has_lead = has.1 in omega arith

    -- the lead's line
    pub lead_pieces : lead_text (series value.ring) names D (Some (lead_to value D))
        ≡ codes "lead: " ++ (terms_text (take (variables_of value.ring) names) (terms_up_to (part_in value.lead) D) ++
        newline)
    lead_pieces =
        let first : List (List ℕ) = take (variables_of value.ring) names in
        ap (λ (l : List ℕ). codes "lead: " ++ l ++ newline)
        (terms_text_is value.ring names 0 D (each_alone value.lead) is.lead_parts lead_long 0 (omega arith)
        ∙ ap (terms_text first) (lead_terms value.lead D))
        ∙ append_assoc (codes "lead: ") (terms_text first (terms_up_to (part_in value.lead) D)) newline

    module _ (i : ℕ) (root : Root) (at : slice_get value.roots i ≡ Some root) where
      pub rows_are_parts : AreRowsOfParts value.ring root.times (rows_of value i)
      rows_are_parts = subst (λ (x : Root). AreRowsOfParts value.ring x.times (rows_of value i))
          (get_or_from_slice_get value.roots i root root at) (is.rows i root (slice_get_within value.roots i root at))

      pub rows_long : D < length (rows_of value i)
      rows_long = has.0 i (slice_get_within value.roots i root at)

      -- a factor's lines behind its first one
      pub factor_pieces : (number : ℕ) → factor_text (series value.ring) names D number root (factor_to value D i)
          ≡ (codes "factor " ++ decimal number ++ codes " root " ++ decimal root.value ++ codes " times "
          ++ decimal root.times ++ newline)
          ++ coefficient_lines (take (variables_of value.ring) names) D (part_at value i) root.times
      factor_pieces number = ap (λ (l : List ℕ).
          (codes "factor " ++ decimal number ++ codes " root " ++ decimal root.value
          ++ codes " times " ++ decimal root.times ++ newline) ++ l)
          (lines_are value.ring names root.times D (rows_of value i) rows_are_parts rows_long root.times (omega arith))

past : {X : Type 0} (xs : List X) (i : ℕ) → length xs ≤ i → drop i xs ≡ []
past [] zero le = refl
past [] (suc i) le = refl
past (x ∷ xs) zero le = absurd (omega arith)
past (x ∷ xs) (suc i) le = past xs i (omega arith)

module _ (value : BlockValue) (names : List (List ℕ)) (is : IsBlockValue names value) (D : ℕ) where
  roots_from : (i : ℕ) → i < length value.roots
      → drop i value.roots ≡ get_or value.roots i no_root ∷ drop (i + 1) value.roots
  roots_from i lt = drop_more value.roots i no_root lt

  factors_from : (i : ℕ) → i < length value.roots
      → drop i (factors_to value D) ≡ factor_to value D i ∷ drop (i + 1) (factors_to value D)
  factors_from i lt =
      let many = is.factors in
      let within : i < length value.rows = omega arith in
      let there : i < length (factors_to value D) =
      omega (arith, length-map value.rows (λ rows. polynomial_of value.ring (take (suc D) rows))) in
      drop_more (factors_to value D) i (factor_to value D i) there
      ∙ ap (λ f. f ∷ drop (i + 1) (factors_to value D))
      (get_or-map (λ rows. polynomial_of value.ring (take (suc D) rows)) value.rows i [] (factor_to value D i) within)

  -- one factor more of a block, and of a degree of a stream
  pub block_left : (i : ℕ) → i < length value.roots
      → factor_texts (series value.ring) names D (i + 1) (drop i value.roots) (drop i (factors_to value D))
      ≡ factor_text (series value.ring) names D (i + 1) (get_or value.roots i no_root) (factor_to value D i)
      ++ factor_texts (series value.ring) names D (i + 1 + 1) (drop (i + 1) value.roots)
      (drop (i + 1) (factors_to value D))
  block_left i lt = (λ l. factor_texts (series value.ring) names D (i + 1) (roots_from i lt l) (factors_from i lt l))
      ∙ ap (λ n. factor_text (series value.ring) names D (i + 1) (get_or value.roots i no_root) (factor_to value D i)
      ++ factor_texts (series value.ring) names D n (drop (i + 1) value.roots) (drop (i + 1) (factors_to value D)))
      (sym (add-one (i + 1)))

  pub stream_left : (i : ℕ) → i < length value.roots
      → lines_of_all (series value.ring) names D (i + 1) (drop i value.roots) (drop i (factors_to value D))
      ≡ lines_of (series value.ring) names D (i + 1) (factor_to value D i) (get_or value.roots i no_root).times
      ++ lines_of_all (series value.ring) names D (i + 1 + 1) (drop (i + 1) value.roots)
      (drop (i + 1) (factors_to value D))
  stream_left i lt = (λ l. lines_of_all (series value.ring) names D (i + 1) (roots_from i lt l) (factors_from i lt l))
      ∙ ap (λ n. lines_of (series value.ring) names D (i + 1) (factor_to value D i) (get_or value.roots i no_root).times
      ++ lines_of_all (series value.ring) names D n (drop (i + 1) value.roots) (drop (i + 1) (factors_to value D)))
      (sym (add-one (i + 1)))

  pub block_end : (i : ℕ) → length value.roots ≤ i
      → factor_texts (series value.ring) names D (i + 1) (drop i value.roots) (drop i (factors_to value D)) ≡ []
  block_end i le = ap (λ roots. factor_texts (series value.ring) names D (i + 1) roots (drop i (factors_to value D)))
      (past value.roots i le)

  pub stream_end : (i : ℕ) → length value.roots ≤ i
      → lines_of_all (series value.ring) names D (i + 1) (drop i value.roots) (drop i (factors_to value D)) ≡ []
  stream_end i le = ap (λ roots. lines_of_all (series value.ring) names D (i + 1) roots (drop i (factors_to value D)))
      (past value.roots i le)
