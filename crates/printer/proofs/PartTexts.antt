-- The texts of a polynomial's terms are those of the parts that it was put together of.
use Rattle.std.proofs.Common.{◌≡◌, ℕ, zero, suc, ◌<◌, ◌≤◌, Bool, true, false, cond, List, [], ◌∷◌, ◌++◌, All, length}
use Rattle.std.proofs.Common.{get_or, take, refl, sym, ◌∙◌, ap, subst, arith}
use Rattle.std.specs.Prelude.{◌==◌, not, codes, decimal}
use Rattle.std.specs.FinMap.{entries}
use Rattle.std.proofs.lemmas.List.{get_or-take, length-take-le, map-append}
use Rattle.ps_model.specs.BlockText.{newline, power_text, powers_text, term_text, terms_text, terms_of_degree}
use Rattle.ps_model.specs.BlockText.{printed_terms, power_line, power_lines}
use Rattle.ps_model.specs.Job.{series_ring}
use Rattle.ps_model.specs.Keys.{Key, numbers, powers_of}
use Rattle.ps_model.specs.Slices.{slice_at}
use Rattle.ps_model.specs.SeriesRing.{ring as ring_of, Poly}
use Rattle.ps_model.proofs.Rows.{slice_at-rows}
use Rattle.parts.specs.declared.rings.Ring.{Ring}
use Rattle.parts.specs.PartValue.{PartValue, IsEntryOf, IsPartOf}
use Rattle.parts.specs.Rings.{modulus_of, variables_of, weights_of, eight_weights}
use Rattle.parts.specs.RowsOfParts.{IsRowOfParts, AreRowsOfParts, nothing}
use Rattle.parts.specs.Series.{series, polynomial_modulo, polynomial_in, polynomial_of, rows_maps}
use Rattle.parts.proofs.Polynomials.{part_at-rows, modulus_is}
use Rattle.parts.proofs.RowSlices.{rows_are}
use Rattle.printer.specs.Lines.{texts_of, listed, has_texts, coefficient_line, coefficient_lines}
use Rattle.printer.specs.Rows.{row_in, listed_part, terms_in, terms_up_to}
use Rattle.printer.proofs.Raised.{unless_zero, texts_of_slice}
use Rattle.printer.proofs.TermTexts.{zero_unless, terms_are}

-- powers of 0 write nothing
no_powers : (N : ℕ) (names : List (List ℕ)) → powers_text names (numbers N (powers_of N [])) ≡ []
no_powers zero [] = refl
no_powers zero (name ∷ names) = refl
no_powers (suc N) [] = refl
no_powers (suc N) (name ∷ names) = no_powers N names

-- where the powers past the first n are 0, the first n names serve
first_names : (N n : ℕ) (names : List (List ℕ)) (xs : List ℕ)
    → powers_text names (numbers N (powers_of N (take n xs))) ≡ powers_text (take n names)
    (numbers N (powers_of N (take n xs)))
first_names N zero names xs = no_powers N names
first_names zero (suc n) [] xs = refl
first_names zero (suc n) (name ∷ names) xs = refl
first_names (suc N) (suc n) [] xs = refl
first_names (suc N) (suc n) (name ∷ names) [] = no_powers N names ∙ sym (no_powers N (take n names))
first_names (suc N) (suc n) (name ∷ names) (x ∷ xs) =
    ap (λ (l : List ℕ). power_text name x ++ l) (first_names N n names xs)

module _ (ring : Ring) (names : List (List ℕ)) where
  same_term : (d : ℕ) (e : Key 8 × ℕ) → IsEntryOf (modulus_of ring) (weights_of ring) d e
      → term_text names e ≡ term_text (take (variables_of ring) names) e
  same_term d e is = ap (λ (l : List ℕ). decimal e.1 ++ l)
      (ap (λ (k : Key 8). powers_text names (numbers 8 k.powers)) key
      ∙ first_names 8 (variables_of ring) names (numbers 8 e.0.powers)
      ∙ ap (λ (k : Key 8). powers_text (take (variables_of ring) names) (numbers 8 k.powers)) (sym key))
    where
      long : length (weights_of ring) ≡ variables_of ring
      long = length-take-le ring.n ring.weights (let many = ring.many in let few = ring.few in omega arith)

      key : e.0 ≡ record { powers = powers_of 8 (take (variables_of ring) (numbers 8 e.0.powers)); y = 0 }
      key = is.0.is ∙ ap (λ n. record { powers = powers_of 8 (take n (numbers 8 e.0.powers)); y = 0 }) long

  same_terms : (d : ℕ) (es : List (Key 8 × ℕ)) → All (IsEntryOf (modulus_of ring) (weights_of ring) d) es
      → texts_of names (unless_zero es) ≡ texts_of (take (variables_of ring) names) (unless_zero es)
  same_terms d [] are = refl
  same_terms d (e ∷ es) are = at (not (e.1 == 0)) (same_term d e (are 0 e (omega arith)))
      (same_terms d es (λ k x lt. are (suc k) x (omega arith)))
    where
      at : (b : Bool) → term_text names e ≡ term_text (take (variables_of ring) names) e
          → texts_of names (unless_zero es) ≡ texts_of (take (variables_of ring) names) (unless_zero es)
          → texts_of names (cond b (e ∷ unless_zero es) (unless_zero es))
          ≡ texts_of (take (variables_of ring) names) (cond b (e ∷ unless_zero es) (unless_zero es))
      at true here later = λ i. here i ∷ later i
      at false here later = later

-- the first rows are rows
rows_up_to : (ring : Ring) (K D : ℕ) (rows : List (List PartValue)) → AreRowsOfParts ring K rows → D < length rows
    → AreRowsOfParts ring K (take (suc D) rows)
rows_up_to ring K D rows are lt r within =
    let long : length (take (suc D) rows) ≡ suc D = length-take-le (suc D) rows lt in
    subst (IsRowOfParts ring K r) (sym (get_or-take (suc D) rows r [] (omega arith)))
    (are r (omega arith))

-- the texts of the terms of one degree
at_modulus : (m : ℕ) (ws : List ℕ) (j r : ℕ) (names : List (List ℕ)) (p : Poly (series_ring m ws)) (q : PartValue)
    → polynomial_modulo m ws q.map ≡ slice_at (ring_of (series_ring m ws)) r j p
    → All (λ e. e.1 < (series_ring m ws).modulus) (entries q.map)
    → texts_of names (terms_of_degree (series_ring m ws) p j r) ≡ texts_of names (terms_in q)
unfolding series_ring polynomial_modulo
at_modulus m ws j r names p q is below = texts_of_slice (series_ring m ws) names j r p q.map is below

module _ (ring : Ring) (names : List (List ℕ)) (K D : ℕ) (rows : List (List PartValue))
    (are : AreRowsOfParts ring K rows)
    (lt : D < length rows) where
  abbrev pub put_together : Poly (series ring)
  put_together = polynomial_of ring (take (suc D) rows)

  part_is : (j r : ℕ) → r ≤ D → j ≤ K → IsPartOf ring (listed_part rows j r)
  part_is j r le le' =
      let row = are r (omega arith) in
      let places : length (row_in rows r) ≡ suc K = row.places in
      row.parts j nothing (omega arith)

  slice_is : (j r : ℕ) → r ≤ D
      → polynomial_in ring (listed_part rows j r).map ≡ slice_at (ring_of (series ring)) r j put_together
  slice_is j r le = sym (slice_at-rows (ring_of (series ring)) K r j (rows_maps ring (take (suc D) rows))
      (rows_are ring K (take (suc D) rows) (rows_up_to ring K D rows are lt))
      ∙ part_at-rows ring (take (suc D) rows) r j
      ∙ ap (λ row. polynomial_in ring (get_or row j nothing).map) (get_or-take (suc D) rows r [] (omega arith)))

  -- those of one degree
  pub texts_at_degree : (j r : ℕ) → r ≤ D → j ≤ K → texts_of names (terms_of_degree (series ring) put_together j r)
      ≡ texts_of (take (variables_of ring) names) (terms_in (listed_part rows j r))
  texts_at_degree j r le le' =
      let part = listed_part rows j r in
      let entries_are : IsPartOf ring part = part_is j r le le' in
      at_modulus (modulus_of ring) (eight_weights ring) j r names put_together part (slice_is j r le)
      (λ k e within. subst (λ m. (get_or (entries part.map) k e).1 < m) (sym (modulus_is ring))
      (entries_are k e within).1)
      ∙ same_terms ring names part.degree (entries part.map) entries_are

  -- those of all degrees up to d
  texts_to : (j d : ℕ) → d ≤ D → j ≤ K → texts_of names (printed_terms (series ring) put_together j d)
      ≡ texts_of (take (variables_of ring) names) (terms_up_to (listed_part rows j) d)
  texts_to j zero le le' = texts_at_degree j 0 le le'
  texts_to j (suc d) le le' =
      map-append (term_text names) (printed_terms (series ring) put_together j d)
      (terms_of_degree (series ring) put_together j (suc d))
      ∙ (λ i. texts_to j d (omega arith) le' i ++ texts_at_degree j (suc d) le le' i)
      ∙ sym (map-append (term_text (take (variables_of ring) names)) (terms_up_to (listed_part rows j) d)
      (terms_in (listed_part rows j (suc d))))

  pub terms_text_is : (j : ℕ) → j ≤ K → terms_text names (printed_terms (series ring) put_together j D)
      ≡ terms_text (take (variables_of ring) names) (terms_up_to (listed_part rows j) D)
  terms_text_is j le = terms_are names (printed_terms (series ring) put_together j D)
      ∙ ap (λ (ts : List (List ℕ)). listed false ts ++ zero_unless (has_texts ts)) (texts_to j D (omega arith) le)
      ∙ sym (terms_are (take (variables_of ring) names) (terms_up_to (listed_part rows j) D))

  line_is : (j : ℕ) → j ≤ K → power_line (series ring) names D put_together j
      ≡ coefficient_line (take (variables_of ring) names) D (listed_part rows) j
  line_is j le = ap (λ (l : List ℕ). codes "Y^" ++ decimal j ++ codes ": " ++ l ++ newline) (terms_text_is j le)

  pub lines_are : (j : ℕ) → j ≤ K → power_lines (series ring) names D put_together j
      ≡ coefficient_lines (take (variables_of ring) names) D (listed_part rows) j
  lines_are zero le = line_is 0 le
  lines_are (suc j) le = λ i. line_is (suc j) le i ++ lines_are j (omega arith) i
