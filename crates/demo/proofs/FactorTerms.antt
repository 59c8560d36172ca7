-- The terms of the polynomial that rows of parts are, put together, are those of the parts.
use Rattle.std.proofs.Common.{◌≡◌, ℕ, zero, suc, ◌+◌, ◌<◌, ◌≤◌, Bool, true, cond, List, [], ◌∷◌, length}
use Rattle.std.proofs.Common.{map, take, get_or, refl, sym, ◌∙◌, ap, subst, arith, inl, inr}
use Rattle.std.specs.Prelude.{None}
use Rattle.std.specs.List.{All, filter}
use Rattle.std.specs.Cmp.{nat_cmp_is}
use Rattle.std.specs.Cmp.Lexicographic.{slice_cmp}
use Rattle.std.specs.FinMap.{FinMap, entries, entries_sorted, retain_keys, get-entries, get-retain_keys}
use Rattle.std.specs.FinMap.Entries.{where_key, is_sorted-where_key, find-where_key, same_entries}
use Rattle.std.specs.Ordering.{nat_cmp, ordering_then}
use Rattle.std.specs.declared.cmp.Ordering.TheVariants.{Less, Equal, Greater}
use Rattle.std.proofs.lemmas.Bool.{cases_order, leb-true}
use Rattle.std.proofs.lemmas.List.{get_or-take, length-map, length-take-le}
use Rattle.std.proofs.lemmas.List.Elements.{filter_passes}
use Rattle.std.proofs.Math.Dec.{leb}
use Rattle.ps_model.specs.BlockText.{terms_of_degree}
use Rattle.ps_model.specs.Job.{series_ring}
use Rattle.ps_model.specs.Keys.{Key, Powers, numbers, add_powers, add_keys, y_key, key_compare}
use Rattle.ps_model.specs.Polynomial.{Polynomial, of_map, terms, kept_terms}
use Rattle.ps_model.specs.Ring.{Ring}
use Rattle.ps_model.specs.Bounds.{HasNoDegreeAbove, HasNoPowerAbove}
use Rattle.ps_model.specs.SeriesRing.{SeriesRing, ring as ring_of, degree, Poly}
use Rattle.ps_model.specs.Slices.{slice_at}
use Rattle.ps_model.specs.Truncation.{truncated}
use Rattle.ps_model.proofs.Retained.{map-kept_terms}
use Rattle.ps_model.proofs.Rows.{slice_at-rows, rows_no_degree_above, rows_no_power_above}
use Rattle.parts.specs.PartValue.{PartValue, IsPartOf}
use Rattle.parts.specs.Rings.{modulus_of, eight_weights}
use Rattle.parts.specs.RowsOfParts.{IsRowOfParts, AreRowsOfParts, nothing}
use Rattle.parts.specs.Series.{series, polynomial_in, polynomial_modulo, polynomial_of, rows_maps, row_maps}
use Rattle.parts.specs.declared.rings.Ring.{Ring as RingOf}
use Rattle.parts.proofs.Polynomials.{part_at-rows, modulus_is}
use Rattle.parts.proofs.RowSlices.{rows_are}
use Rattle.printer.specs.Rows.{row_in, listed_part, terms_in}
use Rattle.printer.proofs.Raised.{raised_by, terms_raised, unless_zero}
use Rattle.demo.specs.Counts.{sum_below}
use Rattle.demo.proofs.CellSums.{weight, weight-same, cells_are, sum_below-same}

-- what is kept whole has the terms that pass alone
module _ (R : Ring) (t : R.Key → Bool) (p : Polynomial R) where
  entries_kept : filter (λ e. t e.0) (entries p.map) ≡ entries (retain_keys p.map t)
  entries_kept = same_entries R.compare R.total_order R.antisymmetric (where_key R.compare t (entries p.map))
      (entries (retain_keys p.map t)) (is_sorted-where_key R.compare t (entries p.map) (entries_sorted p.map))
      (entries_sorted (retain_keys p.map t)) (λ q. find-where_key R.compare t q (alike q) (entries p.map)
      ∙ ap (λ o. cond (t q) o None) (sym (get-entries p.map q)) ∙ sym (get-retain_keys p.map t q (alike q))
      ∙ get-entries (retain_keys p.map t) q)
    where
      alike : (q x : R.Key) → R.compare q x ≡ Equal → t x ≡ t q
      alike q x e = ap t (sym (R.antisymmetric q x e))

  all_pass : kept_terms R t p ≡ p → All (λ e. t e.0 ≡ true) (terms R p)
  all_pass whole = subst (λ es. All (λ e. t e.0 ≡ true) es)
      (entries_kept ∙ sym (ap entries (map-kept_terms R t p)) ∙ ap (terms R) whole)
      (filter_passes (λ e. t e.0) (terms R p))

-- so none is above a bound
none_above : (R : Ring) (d : R.Key → ℕ) (D : ℕ) (p : Polynomial R) → truncated R d D p ≡ p
    → All (λ e. d e.0 < suc D) (terms R p)
unfolding truncated
none_above R d D p whole = λ k e lt.
    let low : d (get_or (terms R p) k e).0 ≤ D = leb-true _ D (all_pass R (λ x. leb (d x) D) p whole k e lt) in
    omega arith

-- adding a key keeps the order
shifted_cmp : (a x y : ℕ) → nat_cmp (a + x) (a + y) ≡ nat_cmp x y
shifted_cmp a x y = elim (cases_order x y) [
  | inl e ↦ sym (nat_cmp_is (a + x) (a + y) Equal (omega arith)) ∙ nat_cmp_is x y Equal e
  | inr d ↦ elim d [
    | inl l ↦ sym (nat_cmp_is (a + x) (a + y) Less (omega arith)) ∙ nat_cmp_is x y Less l
    | inr g ↦ sym (nat_cmp_is (a + x) (a + y) Greater (omega arith)) ∙ nat_cmp_is x y Greater g
  ]
]

shifted_numbers : (n : ℕ) (k x y : Powers n)
    → slice_cmp nat_cmp (numbers n (add_powers n k x)) (numbers n (add_powers n k y))
    ≡ slice_cmp nat_cmp (numbers n x) (numbers n y)
shifted_numbers zero k x y = refl
shifted_numbers (suc n) k x y = λ i. ordering_then (shifted_cmp k.0 x.0 y.0 i) (shifted_numbers n k.1 x.1 y.1 i)

shifted_order : (n : ℕ) (k x y : Key n) → key_compare n (add_keys n k x) (add_keys n k y) ≡ key_compare n x y
shifted_order n k x y = λ i. ordering_then (shifted_cmp k.y y.y x.y i) (shifted_numbers n k.powers y.powers x.powers i)

raised_coefficients : {K : Type 0} (add : K → K → K) (k : K) (es : List (K × ℕ))
    → map (λ t. t.1) (raised_by add k es) ≡ map (λ t. t.1) es
raised_coefficients add k [] = refl
raised_coefficients add k (e ∷ es) = ap (λ cs. e.1 ∷ cs) (raised_coefficients add k es)

-- the coefficients of a slice
slice_coefficients : (S : SeriesRing) (j r : ℕ) (p : Poly S) (m : FinMap (key_compare S.variables) ℕ)
    → of_map (ring_of S) m ≡ slice_at (ring_of S) r j p → All (λ e. e.1 < S.modulus) (entries m)
    → map (λ t. t.1) (terms_of_degree S p j r) ≡ map (λ t. t.1) (unless_zero (entries m))
slice_coefficients S j r p m is below =
    ap (λ es. map (λ t. t.1) es)
    (terms_raised (ring_of S) j r p m is (shifted_order S.variables (y_key S.variables j)) below)
    ∙ raised_coefficients (add_keys S.variables) (y_key S.variables j) (unless_zero (entries m))

at_modulus : (m : ℕ) (ws : List ℕ) (j r : ℕ) (p : Poly (series_ring m ws)) (q : PartValue)
    → polynomial_modulo m ws q.map ≡ slice_at (ring_of (series_ring m ws)) r j p
    → All (λ e. e.1 < (series_ring m ws).modulus) (entries q.map)
    → map (λ t. t.1) (terms_of_degree (series_ring m ws) p j r) ≡ map (λ t. t.1) (terms_in q)
unfolding series_ring polynomial_modulo
at_modulus m ws j r p q is below = slice_coefficients (series_ring m ws) j r p q.map is below

module _ (ring : RingOf) (K D : ℕ) (rows : List (List PartValue)) (are : AreRowsOfParts ring K rows)
    (lt : D < length rows) where
  abbrev first_rows : List (List PartValue)
  first_rows = take (suc D) rows

  abbrev put_together : Poly (series ring)
  put_together = polynomial_of ring first_rows

  many : length first_rows ≡ suc D
  many = length-take-le (suc D) rows lt

  are_first : AreRowsOfParts ring K first_rows
  are_first r within = subst (IsRowOfParts ring K r)
      (sym (get_or-take (suc D) rows r [] (let long = many in omega arith)))
      (are r (let long = many in omega arith))

  slice_is : (j r : ℕ) → r ≤ D
      → polynomial_in ring (listed_part rows j r).map ≡ slice_at (ring_of (series ring)) r j put_together
  slice_is j r le = sym (slice_at-rows (ring_of (series ring)) K r j (rows_maps ring first_rows)
      (rows_are ring K first_rows are_first)
      ∙ part_at-rows ring first_rows r j
      ∙ ap (λ row. polynomial_in ring (get_or row j nothing).map) (get_or-take (suc D) rows r [] (omega arith)))

  part_is : (j r : ℕ) → r ≤ D → j ≤ K → IsPartOf ring (listed_part rows j r)
  part_is j r le le' =
      let row = are r (omega arith) in
      let places : length (row_in rows r) ≡ suc K = row.places in
      row.parts j nothing (omega arith)

  part_coefficients : (j r : ℕ) → r ≤ D → j ≤ K
      → map (λ t. t.1) (terms_of_degree (series ring) put_together j r)
      ≡ map (λ t. t.1) (terms_in (listed_part rows j r))
  part_coefficients j r le le' =
      let part = listed_part rows j r in
      let entries_are : IsPartOf ring part = part_is j r le le' in
      at_modulus (modulus_of ring) (eight_weights ring) j r put_together part (slice_is j r le)
      (λ k e within. subst (λ m. (get_or (entries part.map) k e).1 < m) (sym (modulus_is ring))
      (entries_are k e within).1)

  no_power_above : HasNoPowerAbove K put_together
  no_power_above = rows_no_power_above (ring_of (series ring)) K (rows_maps ring first_rows)
      (rows_are ring K first_rows are_first)

  no_degree_above : HasNoDegreeAbove D put_together
  no_degree_above = rows_no_degree_above (ring_of (series ring)) K D (rows_maps ring first_rows)
      (rows_are ring K first_rows are_first)
      (let long = length-map first_rows (row_maps ring) in let count = many in omega arith)

  -- all terms, part by part
  pub terms_by_part : (w : ℕ → ℕ)
      → sum_below (suc K) (λ j. sum_below (suc D) (λ r. weight w (terms_in (listed_part rows j r))))
      ≡ weight w (terms (ring_of (series ring)) put_together)
  terms_by_part w =
      sum_below-same (suc K) _ _ (λ j low. sum_below-same (suc D) _ _ (λ r low'.
      weight-same w (terms_in (listed_part rows j r)) (terms_of_degree (series ring) put_together j r)
      (sym (part_coefficients j r (omega arith) (omega arith)))))
      ∙ cells_are w (λ x. x.y) (degree (series ring)) (suc K) (suc D) (terms (ring_of (series ring)) put_together)
      (none_above (ring_of (series ring)) (λ x. x.y) K put_together no_power_above)
      (none_above (ring_of (series ring)) (degree (series ring)) D put_together no_degree_above)
