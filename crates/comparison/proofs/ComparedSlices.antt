-- A polynomial of a view beside one that was read: a list has the terms of a part exactly where their slices are the
-- same.
use Rattle.std.proofs.Common.{◌≡◌, ℕ, suc, ◌<◌, ◌≤◌, ◌&&◌, Bool, true, false, cond, List, [], ◌∷◌, All, length, take}
use Rattle.std.proofs.Common.{get_or, map, refl, sym, ◌∙◌, ap, subst, arith}
use Rattle.std.specs.Prelude.{◌==◌, Some}
use Rattle.std.specs.FinMap.{get, entries}
use Rattle.std.specs.List.{filter}
use Rattle.std.proofs.lemmas.List.{get_or-take, length-take-le, length-map}
use Rattle.ps_model.specs.Bounds.{HasNoDegreeAbove, HasNoPowerAbove}
use Rattle.ps_model.specs.Job.{series_ring}
use Rattle.ps_model.specs.Keys.{Key}
use Rattle.ps_model.specs.Plain.{key_of, entry_of}
use Rattle.ps_model.specs.PlainLists.{plain_degree, without_y}
use Rattle.ps_model.specs.SeriesRing.{ring as ring_of, Poly}
use Rattle.ps_model.specs.Slices.{slice_at}
use Rattle.ps_model.specs.declared.plain.PlainTerm.{PlainTerm}
use Rattle.ps_model.proofs.OfMap.{map-of_map}
use Rattle.ps_model.proofs.Rows.{slice_at-rows, rows_no_power_above, rows_no_degree_above}
use Rattle.parts.specs.PartValue.{PartValue, IsPartOf}
use Rattle.parts.specs.Rings.{modulus_of, eight_weights}
use Rattle.parts.specs.RowsOfParts.{IsRowOfParts, AreRowsOfParts, nothing}
use Rattle.parts.specs.Series.{series, polynomial_modulo, polynomial_in, polynomial_of, row_maps, rows_maps}
use Rattle.parts.specs.declared.rings.Ring.{Ring}
use Rattle.parts.proofs.Polynomials.{part_at-rows, modulus_is}
use Rattle.parts.proofs.RowSlices.{rows_are}
use Rattle.printer.specs.ReadText.{Coefficients, IsReduced}
use Rattle.printer.specs.Rows.{row_in, listed_part, terms_in}
use Rattle.comparison.specs.Compared.{terms_at}
use Rattle.comparison.proofs.SliceTerms.{slices_from_terms, terms_from_slices}

-- terms that are chosen by their key, as entries
chosen : (t : Key 8 → Bool) (ts : List PlainTerm) → map (λ u. without_y (entry_of u)) (filter (λ u. t (key_of u)) ts)
    ≡ map without_y (filter (λ e. t e.0) (map entry_of ts))
chosen t [] = refl
chosen t (u ∷ ts) = at (t (key_of u)) (chosen t ts)
  where
    at : (b : Bool) → map (λ u. without_y (entry_of u)) (filter (λ u. t (key_of u)) ts)
        ≡ map without_y (filter (λ e. t e.0) (map entry_of ts))
        → map (λ u. without_y (entry_of u)) (cond b (u ∷ filter (λ u. t (key_of u)) ts) (filter (λ u. t (key_of u)) ts))
        ≡ map without_y (cond b (entry_of u ∷ filter (λ e. t e.0) (map entry_of ts))
        (filter (λ e. t e.0) (map entry_of ts)))
    at true later = ap (λ (l : List (Key 8 × ℕ)). without_y (entry_of u) ∷ l) later
    at false later = later

-- a map whose coefficients are residues other than 0, and its terms
module _ (m : ℕ) (ws : List ℕ) (other : Coefficients)
    (has : (k : Key 8) (c : ℕ) → get other k ≡ Some c → (0 < c) × (c < (series_ring m ws).modulus))
    (ts : List PlainTerm)
    (listed : map entry_of ts ≡ entries other) (j r : ℕ) where
  abbrev here : List (Key 8 × ℕ)
  here = map (λ u. without_y (entry_of u)) (filter (λ u. (u.y == j) && (plain_degree ws (key_of u) == r)) ts)

  module _ (p : Poly (series_ring m ws)) (part : PartValue)
      (is : polynomial_modulo m ws part.map ≡ slice_at (ring_of (series_ring m ws)) r j p)
      (below : All (λ e. e.1 < (series_ring m ws).modulus) (entries part.map))
      (no_y : All (λ e. e.0.y ≡ 0) (entries part.map)) where
    from_terms : here ≡ terms_in part → slice_at (ring_of (series_ring m ws)) r j p
        ≡ slice_at (ring_of (series_ring m ws)) r j (polynomial_modulo m ws other)
    unfolding series_ring polynomial_modulo plain_degree
    from_terms same =
        slices_from_terms (series_ring m ws) j r p (polynomial_modulo m ws other) part.map is below no_y
        (ap (λ es. map without_y (filter (λ e. (e.0.y == j) && (plain_degree ws e.0 == r)) es))
        (ap entries (map-of_map (ring_of (series_ring m ws)) other has) ∙ sym listed)
        ∙ sym (chosen (λ k. (k.y == j) && (plain_degree ws k == r)) ts) ∙ same)

    from_slices : slice_at (ring_of (series_ring m ws)) r j p
        ≡ slice_at (ring_of (series_ring m ws)) r j (polynomial_modulo m ws other) → here ≡ terms_in part
    unfolding series_ring polynomial_modulo plain_degree
    from_slices same =
        chosen (λ k. (k.y == j) && (plain_degree ws k == r)) ts
        ∙ ap (λ es. map without_y (filter (λ e. (e.0.y == j) && (plain_degree ws e.0 == r)) es))
        (listed ∙ sym (ap entries (map-of_map (ring_of (series_ring m ws)) other has)))
        ∙ terms_from_slices (series_ring m ws) j r p (polynomial_modulo m ws other) part.map is below no_y same

-- residues by the ring's own modulus
pub residues : (ring : Ring) (p : Coefficients) → IsReduced ring p → (k : Key 8) (c : ℕ) → get p k ≡ Some c
    → (0 < c) × (c < (series ring).modulus)
residues ring p reduced k c is =
    let r = reduced k c is in (r.0, subst (λ n. c < n) (sym (modulus_is ring)) r.1)

-- the rows up to a degree
rows_up_to : (ring : Ring) (K D : ℕ) (rows : List (List PartValue)) → AreRowsOfParts ring K rows → D < length rows
    → AreRowsOfParts ring K (take (suc D) rows)
rows_up_to ring K D rows are lt r within =
    let long : length (take (suc D) rows) ≡ suc D = length-take-le (suc D) rows lt in
    subst (IsRowOfParts ring K r) (sym (get_or-take (suc D) rows r [] (omega arith)))
    (are r (omega arith))

module _ (ring : Ring) (K D : ℕ) (rows : List (List PartValue)) (are : AreRowsOfParts ring K rows)
    (lt : D < length rows) where
  abbrev pub put_together : Poly (series ring)
  put_together = polynomial_of ring (take (suc D) rows)

  pub no_power_above : HasNoPowerAbove K put_together
  no_power_above = rows_no_power_above (ring_of (series ring)) K (rows_maps ring (take (suc D) rows))
      (rows_are ring K (take (suc D) rows) (rows_up_to ring K D rows are lt))

  pub no_degree_above : HasNoDegreeAbove D put_together
  no_degree_above = rows_no_degree_above (ring_of (series ring)) K D (rows_maps ring (take (suc D) rows))
      (rows_are ring K (take (suc D) rows) (rows_up_to ring K D rows are lt)) few
    where
      few : length (rows_maps ring (take (suc D) rows)) ≤ suc D
      few = let long = length-take-le (suc D) rows lt in
          let same = length-map (take (suc D) rows) (row_maps ring) in omega arith

  slice_is : (j r : ℕ) → r ≤ D
      → polynomial_in ring (listed_part rows j r).map ≡ slice_at (ring_of (series ring)) r j put_together
  slice_is j r le = sym (slice_at-rows (ring_of (series ring)) K r j (rows_maps ring (take (suc D) rows))
      (rows_are ring K (take (suc D) rows) (rows_up_to ring K D rows are lt))
      ∙ part_at-rows ring (take (suc D) rows) r j
      ∙ ap (λ row. polynomial_in ring (get_or row j nothing).map) (get_or-take (suc D) rows r [] (omega arith)))

  part_is : (j r : ℕ) → r ≤ D → j ≤ K → IsPartOf ring (listed_part rows j r)
  part_is j r le le' =
      let row = are r (omega arith) in
      let places : length (row_in rows r) ≡ suc K = row.places in
      row.parts j nothing (omega arith)

  module _ (other : Coefficients) (reduced : IsReduced ring other) (ts : List PlainTerm)
      (listed : map entry_of ts ≡ entries other) (j r : ℕ) (le : r ≤ D) (le' : j ≤ K) where
    below : All (λ e. e.1 < (series ring).modulus) (entries (listed_part rows j r).map)
    below k e within =
        subst (λ m. (get_or (entries (listed_part rows j r).map) k e).1 < m) (sym (modulus_is ring))
        (part_is j r le le' k e within).1

    no_y : All (λ e. e.0.y ≡ 0) (entries (listed_part rows j r).map)
    no_y k e within = ap (λ (x : Key 8). x.y) (part_is j r le le' k e within).0.is

    pub slices_same : map (λ u. without_y (entry_of u)) (terms_at ring j r ts) ≡ terms_in (listed_part rows j r)
        → slice_at (ring_of (series ring)) r j put_together
        ≡ slice_at (ring_of (series ring)) r j (polynomial_in ring other)
    slices_same same = from_terms (modulus_of ring) (eight_weights ring) other (residues ring other reduced) ts listed
        j r put_together (listed_part rows j r) (slice_is j r le) below no_y same

    pub terms_same : slice_at (ring_of (series ring)) r j put_together
        ≡ slice_at (ring_of (series ring)) r j (polynomial_in ring other)
        → map (λ u. without_y (entry_of u)) (terms_at ring j r ts) ≡ terms_in (listed_part rows j r)
    terms_same same = from_slices (modulus_of ring) (eight_weights ring) other (residues ring other reduced) ts listed
        j r put_together (listed_part rows j r) (slice_is j r le) below no_y same
